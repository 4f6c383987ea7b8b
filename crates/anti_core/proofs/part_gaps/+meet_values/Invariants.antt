use Rattle.anti_core.proofs.part_gaps.+meet_values.Given as goal

abbrev pub decreases-meet_values : goal.decreases-meet_values
decreases-meet_values l = l.count
