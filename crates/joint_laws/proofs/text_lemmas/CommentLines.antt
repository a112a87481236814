-- The last line of what `publish` writes of a script with a fault is a comment, which a list says nothing by.
use Rattle.std.proofs.Common.{◌≡◌, ℕ, zero, suc, ◌+◌, ◌-◌, ◌%◌, ◌/◌, ◌<◌, ◌≤◌, Bool, true, false, None, List, [], ◌∷◌, ◌++◌, take, length, get_or, Ok, ap, subst, sym, ◌∙◌, refl, arith}
use Rattle.std.specs.Prelude.{◌==◌, nat_le, nat_lt, codes}
use Rattle.std.specs.Fmt.{decimal, digit_glyph, digits, digits_onto}
use Rattle.std.specs.Io.BufRead.{ends_with_byte}
use Rattle.std.specs.List.{list_all}
use Rattle.std.proofs.lemmas.Bool.{and_from, cond_both, leb-true}
use Rattle.std.proofs.lemmas.Bool.Decides.{nat_tests}
use Rattle.std.proofs.lemmas.List.{length-append}
use Rattle.std.proofs.lemmas.List.Elements.{All-get_or}
use Rattle.std.proofs.lemmas.List.Folds.{list_all-append}
use Rattle.std.proofs.lemmas.List.Sums.{AllPass-from_list_all}
use Rattle.ber_core.specs.declared.fault.Cause.{Cause}
use Rattle.ber_core.specs.declared.fault.Cause.TheVariants as causes
use Rattle.list_core.specs.declared.device.InputEnd.TheVariants.{End}
use Rattle.list_core.specs.declared.event_lines.EventLines.TheVariants.{After}
use Rattle.list_core.specs.declared.event_lines.MomentUnit.TheVariants.{Microseconds}
use Rattle.list_core.specs.declared.line_rules.ItemFault.{ItemFault}
use Rattle.list_core.specs.declared.line_rules.ItemFault.TheVariants as fault
use Rattle.list_core.specs.declared.list_fault.ListCause.{ListCause}
use Rattle.list_core.specs.declared.list_fault.ListCause.TheVariants as lines
use Rattle.list_core.specs.Cuts.{HasNo}
use Rattle.list_core.specs.EventLine.{event_of, event_rules, meant}
use Rattle.list_core.specs.Items.{items_in, listing, put_said}
use Rattle.list_core.specs.Lines.{reading, without_cr}
use Rattle.list_core.proofs.ItemReaders.{items_in-line}
use Rattle.list_core.proofs.Lines.{reading-line}
use Rattle.script_core.specs.declared.script.ScriptCause.{ScriptCause}
use Rattle.script_core.specs.declared.script.ScriptCause.TheVariants as script
use Rattle.text_core.specs.Names.{name_of_cause, name_of_list_cause}
use Rattle.exchange_engines.specs.ExchangeNames.{name_of_script_cause}
use Rattle.exchange_engines.specs.ScriptFaultLine.{cause_detail, script_fault_line}

-- ---- texts without control characters, of so many octets at most

abbrev printed : List ℕ → Bool
printed text = list_all (λ x. nat_le 32 x) text

abbrev IsShort : ℕ → List ℕ → Type 0
IsShort n text = (printed text ≡ true) × (length text ≤ n)

both_short : (n m : ℕ) (a b : List ℕ) → IsShort n a → IsShort m b → IsShort (n + m) (a ++ b)
both_short n m a b p q = (list_all-append (λ x. nat_le 32 x) a b ∙ and_from (printed a) (printed b) p.0 q.0, omega (arith, p.1, q.1, length-append a b))

glyph_printed : (d : ℕ) → nat_le 32 (digit_glyph false d) ≡ true
glyph_printed d = cond_both (nat_lt d 10) _ _ (λ (x : ℕ). nat_le 32 x ≡ true) (λ e. grind (arith, nat_tests)) (λ e. grind (arith, nat_tests))

onto_short : (k n m : ℕ) (acc : List ℕ) → IsShort m acc → IsShort (k + m) (digits_onto k 10 false n acc)
onto_short zero n m acc p = let l = p.1 in (p.0, omega (arith, l))
onto_short (suc k) n m acc p =
    let more : IsShort (suc m) (digit_glyph false (n % 10) ∷ acc) = let l = p.1 in (and_from (nat_le 32 (digit_glyph false (n % 10))) (printed acc) (glyph_printed (n % 10)) p.0, omega (arith, l)) in
    cond_both (n / 10 == 0) _ _ (IsShort (suc k + m)) (λ last. (more.0, let l = more.1 in omega (arith, l)))
    (λ others. let w = onto_short k (n / 10) (suc m) (digit_glyph false (n % 10) ∷ acc) more in (w.0, let l = w.1 in omega (arith, l)))

decimal_short : (n : ℕ) → IsShort 64 (decimal n)
unfolding digits
decimal_short n = let w = onto_short 64 n 0 [] (refl, omega arith) in (w.0, let l = w.1 in omega (arith, l))

cause_short : (c : Cause) → IsShort 20 (name_of_cause c)
cause_short causes.Ends = (refl, omega arith)
cause_short _ = (refl, omega arith)

lines_short : (c : ListCause) → IsShort 20 (name_of_list_cause c)
lines_short lines.LineTooLong = (refl, omega arith)
lines_short _ = (refl, omega arith)

script_short : (c : ScriptCause) → IsShort 120 (name_of_script_cause c ++ cause_detail c)
script_short (script.Members f) =
    let w = both_short 72 21 (codes "Members " ++ decimal f.place) (codes " " ++ name_of_cause f.cause) (both_short 8 64 (codes "Members ") (decimal f.place) (refl, omega arith) (decimal_short f.place)) (both_short 1 20 (codes " ") (name_of_cause f.cause) (refl, omega arith) (cause_short f.cause)) in
    (w.0, let l = w.1 in omega (arith, l))
script_short _ = (refl, omega arith)

-- ---- a comment is read as nothing

-- `#`, and a text that a line can hold
pub record IsComment (text : List ℕ) : Type 0 where
  pub says : List ℕ
  pub line : text ≡ (35 ∷ 32 ∷ says) ++ 10 ∷ []
  pub short : IsShort 1000 says

pub script_comment : (f : ItemFault ScriptCause) → IsComment (script_fault_line f)
script_comment (fault.Lines f) =
    let w = both_short 72 20 (decimal f.line ++ codes " script ") (name_of_list_cause f.cause) (both_short 64 8 (decimal f.line) (codes " script ") (decimal_short f.line) (refl, omega arith)) (lines_short f.cause) in
    record { says = decimal f.line ++ codes " script " ++ name_of_list_cause f.cause; line = refl; short = (w.0, let l = w.1 in omega (arith, l)) }
script_comment (fault.Line n why) =
    let w = both_short 72 120 (decimal n ++ codes " script ") (name_of_script_cause why ++ cause_detail why) (both_short 64 8 (decimal n) (codes " script ") (decimal_short n) (refl, omega arith)) (script_short why) in
    record { says = decimal n ++ codes " script " ++ (name_of_script_cause why ++ cause_detail why); line = refl; short = (w.0, let l = w.1 in omega (arith, l)) }

no_line_end : (text : List ℕ) → printed text ≡ true → HasNo 10 text
no_line_end text p k below is =
    let high : nat_le 32 (get_or text k 0) ≡ true = All-get_or (λ (x : ℕ). nat_le 32 x ≡ true) text k 0 below (AllPass-from_list_all (λ x. nat_le 32 x) text p) in
    let least : 32 ≤ get_or text k 0 = leb-true 32 (get_or text k 0) high in
    absurd (omega (arith, is, least))

says_nothing : {A : Type 0} (says : List ℕ) → event_of {A = A} Microseconds (without_cr (35 ∷ 32 ∷ says)) ≡ Ok None
says_nothing {A} says =
    cond_both (ends_with_byte 13 (35 ∷ 32 ∷ says)) _ _ (λ (l : List ℕ). event_of {A = A} Microseconds l ≡ Ok None)
    (λ cr. let front : length (35 ∷ 32 ∷ says) - 1 ≡ suc (length says) = omega arith in subst (λ (n : ℕ). event_of {A = A} Microseconds (take n (35 ∷ 32 ∷ says)) ≡ Ok None) (sym front) refl) (λ none. refl)

pub comment_listed : {A : Type 0} (n : ℕ) (text : List ℕ) → IsComment text → n < 1000000 → listing (event_rules {A = A}) (After Microseconds) End n text ≡ listing event_rules (After Microseconds) End (n + 1) []
comment_listed {A} n text c room =
    ap (listing (event_rules {A = A}) (After Microseconds) End n) c.line ∙
    ap (items_in (event_rules {A = A}) (After Microseconds) n) (reading-line End n (35 ∷ 32 ∷ c.says) [] (no_line_end (35 ∷ 32 ∷ c.says) c.short.0) room (omega (arith, c.short.1))) ∙
    items_in-line (event_rules {A = A}) (After Microseconds) n (without_cr (35 ∷ 32 ∷ c.says)) (reading End (n + 1) []) ∙
    ap (λ said. put_said n (meant Microseconds said) (λ t. listing (event_rules {A = A}) t End (n + 1) [])) (says_nothing {A = A} c.says)
