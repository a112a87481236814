-- Reading of the count of ASDUs, of one ASDU and of ASDUs one after the other is sound.
use Rattle.std.proofs.Common.{◌≡◌, ℕ, ℤ, pos, negsuc, ◌≤◌, List, Option, Result, Ok, Err, refl, sym, ap, subst, ◌∙◌, arith, rules, to_z, of_z, w16, Fits}
use Rattle.std.proofs.lemmas.Int.{ints}
use Rattle.std.specs.Prelude.{◌≤ℤ◌, length, slice_range}
use lib.Dec.{T}
use lib.IntN.{nat_abs}
use lib.Signed.{non_neg}
use mir.Syntax.{w128}
use Rattle.ber_core.specs.Contents.{SpellsInteger, IntegerFault}
use Rattle.ber_core.specs.computed.ContentsReading.{integer_at, natural}
use Rattle.ber_core.specs.Element.{contents_of}
use Rattle.ber_core.specs.Repeated.{SpellsEach, EachFault}
use Rattle.ber_core.specs.declared.element.Header.{Header}
use Rattle.ber_core.specs.declared.fault.Fault.{Fault}
use Rattle.ber_core.proofs.ContentsLaws.{integer_found, integer_again, integer_wrong, integer_wrong_again}
use Rattle.ber_core.proofs.FieldNested.{nested_sound, ok_is}
use Rattle.ber_core.proofs.FieldSound.{IsSound, IsPlaced}
use Rattle.ber_core.proofs.Repeated.{each_at_found, each_at_again, each_at_wrong, each_at_wrong_again}
use Rattle.ber_core.proofs.Steps.{bind_ok}
use Rattle.pdu_core.specs.Asdu.{asdu_fields}
use Rattle.pdu_core.specs.Contents.{Item, contents_grammar}
use Rattle.pdu_core.specs.computed.ContentsReading.{item_at}
use Rattle.pdu_core.specs.Sampled.{asdu_grammar, SvKind, asdu_count, asdus, SvItem, a_count, some_asdus, SpellsSvContents, SvContentsFault, sv_grammar}
use Rattle.pdu_core.specs.computed.SampledReading.{asdu_in, asdus_at, count_in, sv_item_at}
use Rattle.pdu_core.proofs.Items.{cast_is, items_sound, natural_is, not_behind}

pub asdu_sound : IsSound asdu_grammar asdu_in
asdu_sound = nested_sound contents_grammar item_at asdu_fields items_sound refl

-- ---- the count

module _ (octets : List ℕ) (h : Header) where
  pub count_found : (n : ℕ) → count_in octets h ≡ Ok n → SpellsInteger (pos 1) (pos 65535) (pos n) (contents_of octets h)
  unfolding count_in
  count_found n e =
      let c = contents_of octets h in
      let x = bind_ok (integer_at (pos 1) (pos 65535) h.at h.contents_from c) (λ z. Ok (natural z)) n e in
      let s = integer_found (pos 1) (pos 65535) h.at h.contents_from c x.0 x.1 in
      let same : x.0 ≡ pos n = natural_is x.0 (omega (arith, ints, s.0)) ∙ ap pos (ok_is (natural x.0) n x.2) in
      subst (λ (z : ℤ). SpellsInteger (pos 1) (pos 65535) z c) same s

  pub count_again : (n : ℕ) → SpellsInteger (pos 1) (pos 65535) (pos n) (contents_of octets h) → count_in octets h ≡ Ok n
  unfolding count_in
  count_again n s = rw (integer_again (pos 1) (pos 65535) h.at h.contents_from (contents_of octets h) (pos n) s) refl

  pub count_wrong : (f : Fault) → count_in octets h ≡ Err f → IntegerFault f (pos 1) (pos 65535) h.at h.contents_from (contents_of octets h)
  unfolding count_in
  count_wrong f e =
      let c = contents_of octets h in
      integer_wrong (pos 1) (pos 65535) h.at h.contents_from c f (not_behind (integer_at (pos 1) (pos 65535) h.at h.contents_from c) natural f e)

  pub count_wrong_again : (f : Fault) → IntegerFault f (pos 1) (pos 65535) h.at h.contents_from (contents_of octets h) → count_in octets h ≡ Err f
  unfolding count_in
  count_wrong_again f w = rw (integer_wrong_again (pos 1) (pos 65535) h.at h.contents_from (contents_of octets h) f w) refl

-- ---- the ASDUs

module _ (octets : List ℕ) (p e : ℕ) (order : p ≤ e) (within : e ≤ length octets) where
  pub asdus_found : (vss : List (List (Option Item))) → asdus_at octets p e ≡ Ok vss → SpellsEach asdu_grammar 0x30 tt vss (slice_range octets p e)
  unfolding asdus_at
  asdus_found vss is = each_at_found asdu_grammar asdu_in asdu_sound 0x30 tt refl octets e within p vss order is

  pub asdus_again : (vss : List (List (Option Item))) → SpellsEach asdu_grammar 0x30 tt vss (slice_range octets p e) → asdus_at octets p e ≡ Ok vss
  unfolding asdus_at
  asdus_again vss s = each_at_again asdu_grammar asdu_in asdu_sound 0x30 tt refl octets e within p vss order s

  pub asdus_wrong : (f : Fault) → asdus_at octets p e ≡ Err f → EachFault asdu_grammar 0x30 tt f p (slice_range octets p e)
  unfolding asdus_at
  asdus_wrong f is = each_at_wrong asdu_grammar asdu_in asdu_sound 0x30 tt refl octets e within p f order is

  pub asdus_wrong_again : (f : Fault) → EachFault asdu_grammar 0x30 tt f p (slice_range octets p e) → asdus_at octets p e ≡ Err f
  unfolding asdus_at
  asdus_wrong_again f w = each_at_wrong_again asdu_grammar asdu_in asdu_sound 0x30 tt refl octets e within p f order w

-- ---- both kinds

sv_item_finds : (k : SvKind) (octets : List ℕ) (h : Header) (x : SvItem) → IsPlaced octets h → sv_item_at k octets h ≡ Ok x → SpellsSvContents k x (contents_of octets h)
sv_item_finds asdu_count octets h x placed e =
    let t = bind_ok (count_in octets h) (λ n. Ok (a_count n)) x e in
    rw (sym (ok_is (a_count t.0) x t.2)) (count_found octets h t.0 t.1)
sv_item_finds asdus octets h x placed e =
    let t = bind_ok (asdus_at octets h.contents_from h.contents_to) (λ vss. Ok (some_asdus vss)) x e in
    rw (sym (ok_is (some_asdus t.0) x t.2)) (asdus_found octets h.contents_from h.contents_to placed.0 placed.1 t.0 t.1)

sv_item_again : (k : SvKind) (octets : List ℕ) (h : Header) (x : SvItem) → IsPlaced octets h → SpellsSvContents k x (contents_of octets h) → sv_item_at k octets h ≡ Ok x
sv_item_again asdu_count octets h (a_count n) placed s = rw (count_again octets h n s) refl
sv_item_again asdus octets h (some_asdus vss) placed s = rw (asdus_again octets h.contents_from h.contents_to placed.0 placed.1 vss s) refl
sv_item_again _ octets h _ placed s = absurd s

sv_item_wrong : (k : SvKind) (octets : List ℕ) (h : Header) (f : Fault) → IsPlaced octets h → sv_item_at k octets h ≡ Err f → SvContentsFault f k h.at h.contents_from (contents_of octets h)
sv_item_wrong asdu_count octets h f placed e = count_wrong octets h f (not_behind (count_in octets h) a_count f e)
sv_item_wrong asdus octets h f placed e =
    asdus_wrong octets h.contents_from h.contents_to placed.0 placed.1 f (not_behind (asdus_at octets h.contents_from h.contents_to) some_asdus f e)

sv_item_wrong_again : (k : SvKind) (octets : List ℕ) (h : Header) (f : Fault) → IsPlaced octets h → SvContentsFault f k h.at h.contents_from (contents_of octets h) → sv_item_at k octets h ≡ Err f
sv_item_wrong_again asdu_count octets h f placed w = rw (count_wrong_again octets h f w) refl
sv_item_wrong_again asdus octets h f placed w = rw (asdus_wrong_again octets h.contents_from h.contents_to placed.0 placed.1 f w) refl

pub sv_items_sound : IsSound sv_grammar sv_item_at
sv_items_sound = record { finds = sv_item_finds; again = sv_item_again; wrong = sv_item_wrong; wrong_again = sv_item_wrong_again }

-- a count, cast
pub count_fits : (z : ℤ) → pos 1 ≤ℤ z → z ≤ℤ pos 65535 → T (non_neg (to_z w128 (of_z w128 z))) × Fits w16 (nat_abs (to_z w128 (of_z w128 z)))
count_fits z low high = rw (cast_is z (omega (arith, ints)) (omega (arith, ints))) (fits z low high) where
  fits : (z : ℤ) → pos 1 ≤ℤ z → z ≤ℤ pos 65535 → T (non_neg z) × Fits w16 (nat_abs z)
  fits (pos n) low high = (tt, search (rules, ints))
  fits (negsuc n) low high = absurd (omega (arith, ints))

pub count_cast : (octets : List ℕ) (h : Header) (z : ℤ) → pos 1 ≤ℤ z → z ≤ℤ pos 65535 → integer_at (pos 1) (pos 65535) h.at h.contents_from (contents_of octets h) ≡ Ok z
    → ◌≡◌ {A = Result ℕ Fault} (Ok (nat_abs (to_z w128 (of_z w128 z)))) (count_in octets h)
unfolding count_in
count_cast octets h z low high is = rw (cast_is z (omega (arith, ints)) (omega (arith, ints)), is) (same z low high) where
  same : (z : ℤ) → pos 1 ≤ℤ z → z ≤ℤ pos 65535 → ◌≡◌ {A = Result ℕ Fault} (Ok (nat_abs z)) (Ok (natural z))
  same (pos n) low high = refl
  same (negsuc n) low high = absurd (omega (arith, ints))
