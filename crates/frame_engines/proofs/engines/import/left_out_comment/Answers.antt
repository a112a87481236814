use Rattle.std.proofs.Common.{◌≡◌, ℕ, List, ◌++◌, sym, ◌∙◌, append_assoc}
use Rattle.std.specs.Prelude.{codes}
use Rattle.std.specs.Fmt.{decimal}
use Rattle.text_core.proofs.PieceLemmas.{before}
use Rattle.frame_engines.proofs.engines.import.left_out_comment.Goals as goal

parts : (a b c d e : List ℕ) → a ++ b ++ c ++ d ++ e ≡ a ++ (b ++ (c ++ (d ++ e)))
parts a b c d e = simp append_assoc

pub returns : goal.returns
returns c =
    before (codes "# record ") c.put-3.ensures.text (
    before (decimal c.args.number) c.put_decimal-2.ensures.text (
    before (codes " of ") c.put-2.ensures.text (
    before (decimal c.args.size) c.put_decimal.ensures.text (
    before (codes " octets left out\n") c.put.ensures.text c.new-comment.ensures))))
    ∙ sym (parts (codes "# record ") (decimal c.args.number) (codes " of ") (decimal c.args.size) (codes " octets left out\n"))
