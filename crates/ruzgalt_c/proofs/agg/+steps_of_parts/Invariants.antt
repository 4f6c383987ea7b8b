use Rattle.ruzgalt_c.proofs.agg.+steps_of_parts.Given as goal

abbrev pub decreases-steps_of_parts : goal.decreases-steps_of_parts
decreases-steps_of_parts l = l.count
