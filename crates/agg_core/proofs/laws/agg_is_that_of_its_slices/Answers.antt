use Rattle.agg_core.proofs.SliceLemmas.{slice_agg_is_of_whole, slice_comes_to_the_same, whole_agg_is_of_slices}
use Rattle.agg_core.proofs.laws.agg_is_that_of_its_slices.Goals as goal

pub returns-clause-instants : goal.returns-clause-instants
returns-clause-instants c = slice_comes_to_the_same

pub returns-clause-slice : goal.returns-clause-slice
returns-clause-slice c = slice_agg_is_of_whole

pub returns-clause-whole : goal.returns-clause-whole
returns-clause-whole c = whole_agg_is_of_slices
