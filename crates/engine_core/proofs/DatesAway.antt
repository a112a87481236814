-- Texts behind dates, without them.
use Rattle.std.proofs.Common.{◌≡◌, ℕ, suc, ◌+◌, ◌<◌, List, [], ◌∷◌, ◌++◌, Option, ap, sym, ◌∙◌, refl, inl, inr, arith}
use Rattle.std.specs.Prelude.{⊤, codes, unwrap_or}
use Rattle.std.specs.List.{flat_map}
use Rattle.std.proofs.lemmas.Bool.{cases_eq, cases_lt, ne_eqb}
use Rattle.std.proofs.lemmas.List.{append_assoc}
use Rattle.list_core.specs.Cuts.{HasNo, cut_at}
use Rattle.list_core.proofs.Cuts.{HasNo-append, cut-part, cut-rest, cut_some}
use Rattle.date_core.specs.DateText.{moment_text}
use Rattle.date_core.proofs.Dates.{moments_have_dates, text_behind}
use Rattle.engine_core.specs.Dated.{behind_space, date_mark, dated, lines_as, without_dates}
use Rattle.engine_core.specs.DatedLaws.{DashGoesAway, DatesGoAway, DatesGoEach, IsLines, last_part}
use Rattle.engine_core.proofs.DatedLines.{lines_more}

-- a text by its lines: the rest behind the last line feed, or a line before others
data Lined : List ℕ → Type 0 where
  unended : (text : List ℕ) → HasNo 10 text → Lined text
  ended : (text first others : List ℕ) → HasNo 10 first → text ≡ first ++ 10 ∷ others → Lined others → Lined text

none_in_nothing : (c : ℕ) → HasNo c []
none_in_nothing c k l e = absurd (omega arith)

none_more : (c x : ℕ) (xs : List ℕ) → (x ≡ c → ⊥) → HasNo c xs → HasNo c (x ∷ xs)
none_more c x xs other none = HasNo-append c (x ∷ []) xs (λ k l e. let first : k ≡ 0 = omega arith in other (rw first at e)) none

lined : (text : List ℕ) → Lined text
lined [] = unended [] (none_in_nothing 10)
lined (c ∷ cs) =
    elim (cases_eq c 10) [
      | inl feed ↦ ended (c ∷ cs) [] cs (none_in_nothing 10) (ap (λ (x : ℕ). x ∷ cs) feed) (lined cs)
      | inr other ↦ elim (lined cs) [
        | unended text none ↦ unended (c ∷ cs) (none_more 10 c cs other none)
        | ended text first others none e more ↦ ended (c ∷ cs) (c ∷ first) others (none_more 10 c first other none) (ap (λ l. c ∷ l) e) more
      ]
    ]

-- a line in front of a text
line_first : (write : List ℕ → List ℕ) (first others : List ℕ) → HasNo 10 first → lines_as write (cut_at 10 (first ++ 10 ∷ others)) ≡ write first ++ 10 ∷ lines_as write (cut_at 10 others)
line_first write first others none = ap (lines_as write) (cut-part 10 first others none) ∙ lines_more write first others

rest_alone : (write : List ℕ → List ℕ) (text : List ℕ) → HasNo 10 text → lines_as write (cut_at 10 text) ≡ text
rest_alone write text none = ap (lines_as write) (cut-rest 10 text none)

-- octets of a word: none is a space or a line feed
abbrev IsWord : List ℕ → Type 0
IsWord [] = ⊤
IsWord (c ∷ cs) = (32 < c) × IsWord cs

word_has_no : (c : ℕ) (word : List ℕ) → c < 33 → IsWord word → HasNo c word
word_has_no c [] h w = none_in_nothing c
word_has_no c (x ∷ xs) h w = none_more c x xs (λ e. omega (arith, w.0)) (word_has_no c xs h w.1)

behind_word : (word text : List ℕ) → IsWord word → behind_space (word ++ 32 ∷ text) ≡ text
behind_word [] text w = refl
behind_word (c ∷ cs) text w = rw (ne_eqb c 32 (λ e. omega (arith, w.0))) (behind_word cs text w.1)

digit : (n : ℕ) → 32 < 48 + n
digit n = omega arith

date_word : (year month day time : ℕ) → IsWord (moment_text year month day time)
date_word year month day time =
    (digit _, (digit _, (digit _, (digit _, (omega arith, (digit _, (digit _, (omega arith, (digit _, (digit _, (omega arith, (digit _, (digit _, (omega arith, (digit _, (digit _, (omega arith, (digit _, (digit _, (omega arith, (digit _, (digit _, (digit _, (digit _, (digit _, (digit _, (omega arith, tt)))))))))))))))))))))))))))

-- what stands before a line: a word and a space
record Mark (mark : List ℕ) : Type 0 where
  word : List ℕ
  is_word : IsWord word
  is_mark : mark ≡ word ++ 32 ∷ []

mark_is : (moment : ℕ) → Mark (date_mark moment)
mark_is moment =
    elim (cases_lt moment 253_402_300_800_000_000) [
      | inl before ↦
          let p = moments_have_dates moment before in
          record { word = moment_text p.0 p.1 p.2 p.3; is_word = date_word p.0 p.1 p.2 p.3; is_mark = ap (λ (o : Option (List ℕ)). unwrap_or o (codes "-") ++ codes " ") p.5 }
      | inr late ↦
          record { word = 45 ∷ []; is_word = (omega arith, tt); is_mark = ap (λ (o : Option (List ℕ)). unwrap_or o (codes "-") ++ codes " ") (text_behind moment late) }
    ]

mark_has_no : (mark : List ℕ) → Mark mark → HasNo 10 mark
mark_has_no mark m = rw m.is_mark (HasNo-append 10 m.word (32 ∷ []) (word_has_no 10 m.word (omega arith) m.is_word) (none_more 10 32 [] (λ e. absurd (omega arith)) (none_in_nothing 10)))

behind_mark : (mark line : List ℕ) → Mark mark → behind_space (mark ++ line) ≡ line
behind_mark mark line m = ap (λ l. behind_space (l ++ line)) m.is_mark ∙ ap behind_space (append_assoc m.word (32 ∷ []) line) ∙ behind_word m.word line m.is_word

-- a line behind a mark, before other text
marked_first : (mark line others : List ℕ) → Mark mark → HasNo 10 line → lines_as behind_space (cut_at 10 ((mark ++ line) ++ 10 ∷ others)) ≡ line ++ 10 ∷ lines_as behind_space (cut_at 10 others)
marked_first mark line others m none =
    line_first behind_space (mark ++ line) others (HasNo-append 10 mark line (mark_has_no mark m) none) ∙ ap (λ l. l ++ 10 ∷ lines_as behind_space (cut_at 10 others)) (behind_mark mark line m)

-- whole lines behind a mark, before other text
lines_first : (mark text others : List ℕ) → Mark mark → Lined text → last_part (cut_at 10 text) ≡ [] →
    lines_as behind_space (cut_at 10 (lines_as (λ l. mark ++ l) (cut_at 10 text) ++ others)) ≡ text ++ lines_as behind_space (cut_at 10 others)
lines_first mark text others m (unended t none) whole =
    let nothing : text ≡ [] = sym (ap last_part (cut-rest 10 text none)) ∙ whole in
    rw (rest_alone (λ l. mark ++ l) text none, nothing) refl
lines_first mark text others m (ended t first more none e lines) whole =
    let cut : cut_at 10 text ≡ first ∷ cut_at 10 more = ap (cut_at 10) e ∙ cut-part 10 first more none in
    let behind = lines_first mark more others m lines (sym (last_more first more) ∙ sym (ap last_part cut) ∙ whole) in
    rw (cut, lines_more (λ l. mark ++ l) first more, append_assoc, marked_first mark first _ m none, behind, e) (simp append_assoc) where
      last_more : (first more : List ℕ) → last_part (first ∷ cut_at 10 more) ≡ last_part (cut_at 10 more)
      last_more first more = let r = cut_some 10 more in rw r.2 refl

pub dates_go_away : DatesGoAway
unfolding dated without_dates
dates_go_away moment text = away (date_mark moment) text (mark_is moment) (lined text) where
  away : (mark text : List ℕ) → Mark mark → Lined text → lines_as behind_space (cut_at 10 (lines_as (λ l. mark ++ l) (cut_at 10 text))) ≡ text
  away mark text m (unended t none) = ap (λ l. lines_as behind_space (cut_at 10 l)) (rest_alone (λ l. mark ++ l) text none) ∙ rest_alone behind_space text none
  away mark text m (ended t first others none e lines) =
      ap (λ l. lines_as behind_space (cut_at 10 l)) (ap (λ l. lines_as (λ l. mark ++ l) (cut_at 10 l)) e ∙ line_first (λ l. mark ++ l) first others none)
      ∙ marked_first mark first _ m none ∙ ap (λ l. first ++ 10 ∷ l) (away mark others m lines) ∙ sym e

pub without_none : without_dates [] ≡ []
unfolding without_dates
without_none = refl

-- whole lines behind the date of a moment, before other text
pub first_away : (moment : ℕ) (text others : List ℕ) → IsLines text → without_dates (dated moment text ++ others) ≡ text ++ without_dates others
unfolding dated without_dates
first_away moment text others whole = lines_first (date_mark moment) text others (mark_is moment) (lined text) whole

-- a line behind a dash
pub dash_goes_away : DashGoesAway
unfolding without_dates
dash_goes_away line object none =
    let dash : Mark (codes "- ") = record { word = 45 ∷ []; is_word = (omega arith, tt); is_mark = refl } in
    marked_first (codes "- ") line [] dash none

-- and those of whole lines one after another
pub dates_go_each : DatesGoEach
unfolding dated without_dates
dates_go_each [] lines rest = refl
dates_go_each (e ∷ es) lines rest =
    let others = flat_map (λ (w : ℕ × List ℕ). dated w.0 w.1) es ++ rest in
    ap (λ l. lines_as behind_space (cut_at 10 l)) (append_assoc (dated e.0 e.1) (flat_map (λ (w : ℕ × List ℕ). dated w.0 w.1) es) rest)
    ∙ lines_first (date_mark e.0) e.1 others (mark_is e.0) (lined e.1) (lines 0 e (omega arith))
    ∙ ap (λ l. e.1 ++ l) (dates_go_each es (λ k d h. lines (suc k) d (omega arith)) rest)
    ∙ sym (append_assoc e.1 (flat_map (λ (w : ℕ × List ℕ). w.1) es) (lines_as behind_space (cut_at 10 rest)))
