-- The text of a list with one control block, and the block that it tells: what is asked of a listing can be met.
use Rattle.std.proofs.Common.{◌≡◌, ℕ, suc, ◌+◌, ◌<◌, ◌≤◌, None, List, [], ◌∷◌, ◌++◌, length, drop, get_or, inl, inr, ap, sym, ◌∙◌, refl, arith, append_assoc}
use Rattle.std.specs.Prelude.{codes}
use Rattle.std.specs.Fmt.{decimal}
use Rattle.std.specs.Str.Parse.{AllDigits}
use Rattle.std.proofs.lemmas.Fmt.{decimal_is_IsNumeral}
use Rattle.std.proofs.lemmas.List.{get_or_append_left}
use Rattle.std.proofs.lemmas.Str.Parse.{digit_at}
use Rattle.hex.specs.Hex.{decode_pairs}
use Rattle.list_core.specs.Cuts.{HasNo, cut_at}
use Rattle.list_core.proofs.Cuts.{cut-part}
use Rattle.block_core.specs.declared.block.Block.{Block}
use Rattle.block_core.specs.BlockText.{block_in}
use Rattle.joint_laws.specs.ListedBlocks.{AreListed, HasLine}
use Rattle.joint_laws.proofs.line_lemmas.Visible.{all_visible, visible_unbroken}

abbrev line : List ℕ
line = codes "2 block 0001,G,D,,1,1"

abbrev listed_block : Block (Unit {0})
listed_block = record { app_id = 1; gocb_ref = codes "G"; dat_set = codes "D"; go_id = None; conf_rev = 1; entries = 1 }

-- where an LF stands between two texts, it stands there
between : (a b : List ℕ) → get_or (a ++ 10 ∷ b) (length a) 0 ≡ 10
between [] b = refl
between (x ∷ a) b = between a b

sizes : (a b : List ℕ) → length (a ++ 10 ∷ b) ≡ suc (length a + length b)
sizes [] b = omega arith
sizes (x ∷ a) b = let more = sizes a b in omega (arith, more)

first_cut : (a b : List ℕ) (xs ys : List (List ℕ)) → a ∷ xs ≡ b ∷ ys → a ≡ b
first_cut a b xs ys e = cc

-- a text of one line has that one
one_line : (a b : List ℕ) → HasNo 10 a → HasLine (a ++ 10 ∷ []) b → b ≡ a
one_line a b none h = elim h.starts_line [
  | inl first ↦
      let same : a ++ 10 ∷ [] ≡ b ++ 10 ∷ h.after = h.whole ∙ ap (λ (l : List ℕ). l ++ (b ++ 10 ∷ h.after)) first in
      first_cut b a _ _ (sym (cut-part 10 b h.after h.has_no_lf) ∙ (ap (cut_at 10) (sym same) ∙ cut-part 10 a [] none))
  | inr later ↦
      let earlier : List ℕ = later.0 in
      let same : a ++ 10 ∷ [] ≡ earlier ++ 10 ∷ (b ++ 10 ∷ h.after) = h.whole ∙ (ap (λ (l : List ℕ). l ++ (b ++ 10 ∷ h.after)) later.1 ∙ append_assoc earlier (10 ∷ []) (b ++ 10 ∷ h.after)) in
      let within : length earlier < length a = omega (arith, (ap length same), sizes a [], sizes earlier (b ++ 10 ∷ h.after), sizes b h.after) in
      absurd (none (length earlier) within (sym (get_or_append_left a (10 ∷ []) 0 (length earlier) within) ∙ (ap (λ (l : List ℕ). get_or l (length earlier) 0) same ∙ between earlier (b ++ 10 ∷ h.after))))
]

-- no space stands in a number
number_unspaced : (n : ℕ) → n ≤ 1000000 → HasNo 32 (decimal n)
number_unspaced n h k l e =
    let digits : AllDigits 10 (decimal n) = (decimal_is_IsNumeral n (omega arith)).0.1 in
    omega (arith, (digit_at (decimal n) k digits l).0)

-- behind the number 2 stands what stands behind the number of the line
told_here : (n : ℕ) (what : List ℕ) → n ≤ 1000000 → decimal n ++ 32 ∷ what ≡ line → what ≡ codes "block 0001,G,D,,1,1"
told_here n what few is =
    let two : decimal n ≡ codes "2" = first_cut (decimal n) (codes "2") _ _ (sym (cut-part 32 (decimal n) what (number_unspaced n few)) ∙ ap (cut_at 32) is) in
    let same : codes "2" ++ 32 ∷ what ≡ line = ap (λ (l : List ℕ). l ++ 32 ∷ what) (sym two) ∙ is in
    ap (drop 2) same

line_unbroken : HasNo 10 line
line_unbroken = visible_unbroken line (all_visible line refl)

the_line : (n : ℕ) (word what : List ℕ) → n ≤ 1000000 → HasLine (line ++ 10 ∷ []) (decimal n ++ (32 ∷ word) ++ what) → word ++ what ≡ codes "block 0001,G,D,,1,1"
the_line n word what few h = told_here n (word ++ what) few (sym (append_assoc (decimal n) (32 ∷ word) what) ∙ one_line line (decimal n ++ (32 ∷ word) ++ what) line_unbroken h)

unlike : (what : List ℕ) → codes "block-changed " ++ what ≡ codes "block 0001,G,D,,1,1" → ⊥
unlike what is = let octet : 45 ≡ 32 = ap (λ (l : List ℕ). get_or l 5 0) is in absurd (omega (arith, octet))

pub one_listed : AreListed (codes "2 block 0001,G,D,,1,1\n") (listed_block ∷ [])
unfolding decode_pairs
one_listed = record {
  each = λ what tells.
      let same : codes "block " ++ what ≡ codes "block 0001,G,D,,1,1" = the_line tells.number (codes "block ") what tells.at_most tells.has_line in
      let is : what ≡ codes "0001,G,D,,1,1" = ap (drop 6) same in
      record { position = 0; block = listed_block; there = refl; says = ap block_in is ∙ refl };
  none_changes = λ what tells. unlike what (the_line tells.number (codes "block-changed ") what tells.at_most tells.has_line);
}
