use Rattle.std.proofs.Common.{◌≡◌, ℕ, List, ◌++◌, ap, subst, sym, ◌∙◌, append_assoc}
use Rattle.std.specs.Prelude.{codes}
use Rattle.std.specs.Fmt.{decimal}
use Rattle.text_core.specs.Pieces.{AppendsText}
use Rattle.text_core.proofs.PieceLemmas.{before}
use Rattle.exchange_engines.specs.SampleLine.{seen_word}
use Rattle.exchange_engines.proofs.texts.sample.put_sample_line.Goals as goal

parts : (a b c d e f g : List ℕ) → a ++ (b ++ c) ++ (d ++ e) ++ f ++ g ≡ a ++ (b ++ (c ++ (d ++ (e ++ (f ++ g)))))
parts a b c d e f g =
    append_assoc (a ++ (b ++ c) ++ (d ++ e)) f g ∙ append_assoc (a ++ (b ++ c)) (d ++ e) (f ++ g) ∙ append_assoc a (b ++ c) ((d ++ e) ++ (f ++ g))
    ∙ ap (λ (l : List ℕ). a ++ l) (append_assoc b c ((d ++ e) ++ (f ++ g)) ∙ ap (λ (l : List ℕ). b ++ (c ++ l)) (append_assoc d e (f ++ g)))

pub returns : goal.returns
returns g c =
    let args = c.args in
    let word = seen_word args.seen in
    let text =
    before (decimal args.number) c.put_decimal-3.ensures.text (
    before (codes " ") c.put-3.ensures.text (
    before (decimal args.position) c.put_decimal-2.ensures.text (
    before (codes " ") c.put-2.ensures.text (
    before (decimal args.count) c.put_decimal.ensures.text (
    before word c.prepend_seen.ensures.text (
    before (codes "\n") c.put.ensures.text c.new-text.ensures)))))) in
    subst (λ (t : List ℕ). AppendsText c.append_to.result args.out.now.items c.append_to.new.out.items t)
    (text ∙ sym (parts (decimal args.number) (codes " ") (decimal args.position) (codes " ") (decimal args.count) word (codes "\n"))) c.append_to.ensures
