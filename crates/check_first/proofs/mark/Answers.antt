-- `mark` frees the first numbers, or one multiple after the other.
use Rattle.check_first.proofs.Marks.{marked-first}
use Rattle.check_first.proofs.mark.Goals as goal

pub returns-then-part-eq1 : goal.returns-then-part-eq1
returns-then-part-eq1 c =
    marked-first c.requires.1 c.if-part-eq1.true (c.fill.ensures.after (λ y h. h)) (c.fill-then-part-eq1.ensures.after (λ y h. h))
