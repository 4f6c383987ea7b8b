use Rattle.std.proofs.Common.{◌≡◌, ◌+◌, ◌++◌, length, take}
use Rattle.match_core.specs.ClassedPlaces.{AreByClass}
use Rattle.match_core.specs.Classes.{AreClasses}
use Rattle.match_core.proofs.classes.classes_of.Given as goal

-- the classes of both sides say which rows match by the pairs before the index, and the row indices are by class
abbrev pub invariant-loop-pair : goal.invariant-loop-pair
invariant-loop-pair g l =
    (length l.classes.left.items ≡ length l.left.rows.now) × (length l.classes.right.items ≡ length l.right.rows.now)
    × AreClasses l.left.schema.now l.right.schema.now l.left.rows.now l.right.rows.now
    (take (l.pair-index + 1) l.on) (l.classes.left.items ++ l.classes.right.items)
    × AreByClass l.classes.left.items l.classes.left_places.items
    × AreByClass l.classes.right.items l.classes.right_places.items
