-- Counting members one after the other, and what an exact count says of spellings and faults.
use Rattle.std.proofs.Common.{◌≡◌, ℕ, ◌+◌, ◌-◌, ◌≤◌, ◌<◌, Bool, true, List, [], ◌∷◌, ◌++◌, length, Result, Ok, Err, refl, sym, ap, ap₂, ◌∙◌, arith}
use Rattle.std.proofs.lemmas.Bool.{and_parts}
use Rattle.std.proofs.lemmas.List.{length-append}
use Rattle.std.specs.Prelude.{slice_range, IfOk, IfErr, ◌&&◌}
use Rattle.ber_core.specs.declared.fault.Fault.{Fault}
use Rattle.ber_core.specs.declared.fault.Cause.TheVariants as causes
use Rattle.ber_core.specs.declared.element.Header.{Header}
use Rattle.ber_core.specs.Element.{IsHeader, contents_of}
use Rattle.ber_core.specs.Length.{AreOctets}
use Rattle.ber_core.specs.computed.Reading.{◌>>=◌, IsWithin, header_at}
use Rattle.ber_core.proofs.Regions.{region-split}
use Rattle.ber_core.proofs.Steps.{bind_ok, ok_is, pair_is}
use Rattle.mms_data.specs.Data.{Data}
use Rattle.mms_data.specs.computed.Left.{data_in, less}
use Rattle.mms_data.specs.computed.Reading.{contents_at, known_at, member_at, members_at}
use Rattle.mms_data.specs.Spelling.{SpellsAll, FaultIn}
use Rattle.mms_data.specs.Written.{header_size, written as written_form, written_all, written_contents}
use Rattle.mms_data.specs.declared.kinds.Kind.{Kind}
use Rattle.mms_data.proofs.AsWritten.{member_one, written_behind}
use Rattle.mms_data.proofs.Loop.{Goes, goes_none, goes_on, goes_wrong, goes_all, member_there}
use Rattle.mms_data.proofs.Again.{all_again}
use Rattle.mms_data.proofs.Found.{all_found}
use Rattle.mms_data.proofs.Front.{elsewhere}
use Rattle.mms_data.proofs.Wrong.{all_wrong}
use Rattle.mms_data.proofs.WrongAgain.{all_wrong_again}

pub less_ok : {A B : Type 0} (f : A → B) (r : Result A Fault) (y : B) → Ok y ≡ less f r → (x : A) × (r ≡ Ok x) × (f x ≡ y)
less_ok f (Ok x) y e = (x, refl, let same = sym e in cc)
less_ok f (Err d) y e = absurd (cc)

pub less_err : {A B : Type 0} (f : A → B) (r : Result A Fault) (d : Fault) → Err d ≡ less f r → r ≡ Err d
less_err f (Ok x) d e = absurd (cc)
less_err f (Err g) d e = let same : g ≡ d = (let back = sym e in cc) in rw same refl

-- The members up to place are checked, and there are so many; they stand in their written form where this is told.
pub record Counts (depth at : ℕ) (octets : List ℕ) (end place count : ℕ) (written : Bool) : Type 0 where
  pub done : List Data
  pub counted : length done ≡ count
  pub few : count + at ≤ place
  pub goes : Goes depth at octets end place done
  pub stand : written ≡ true → slice_range octets at place ≡ written_all done

module _ (depth at : ℕ) (octets : List ℕ) (end : ℕ) (inside : end ≤ length octets) where
  pub counts_none : (written : Bool) → at ≤ end → Counts depth at octets end at 0 written
  counts_none written order =
      let none : at - at ≡ 0 = omega arith in
      record { done = []; counted = refl; few = omega arith; goes = goes_none depth at octets end inside order; stand = λ _. rw none refl }

  pub counts_on : (place next count : ℕ) (written stands : Bool) → place < end → place < next → next ≤ end → Ok next ≡ less (λ (x : Data × ℕ). x.1) (member_at depth place (slice_range octets place end))
      → (stands ≡ true → (d : Data) → member_at depth place (slice_range octets place end) ≡ Ok (d, next) → slice_range octets place next ≡ written_form d)
      → Counts depth at octets end place count written → Counts depth at octets end next (count + 1) (written && stands)
  counts_on place next count written stands more later order e stand so_far =
      let x = less_ok (λ (x : Data × ℕ). x.1) (member_at depth place (slice_range octets place end)) next e in
      let one : member_at depth place (slice_range octets place end) ≡ Ok (x.0.0, next) = x.1 ∙ ap (λ n. Ok (x.0.0, n)) x.2 in
      record {
        done = so_far.done ++ x.0.0 ∷ [];
        counted = omega (arith, length-append so_far.done (x.0.0 ∷ []), so_far.counted);
        few = omega (arith, so_far.few);
        goes = goes_on depth at octets end inside place next so_far.done x.0.0 more later order one so_far.goes;
        stand = λ t.
            let both = and_parts written stands t in
            region-split octets at place next (omega (arith, so_far.few)) (omega (arith, later))
            ∙ ap₂ (λ (a b : List ℕ). a ++ b) (so_far.stand both.0) (stand both.1 x.0.0 one)
            ∙ sym (written_behind so_far.done x.0.0);
      }

  pub counts_wrong : (f : Fault) (place count : ℕ) (written : Bool) → place < end → Err f ≡ less (λ (x : Data × ℕ). x.1) (member_at depth place (slice_range octets place end))
      → Counts depth at octets end place count written → Err f ≡ less length (members_at depth at (slice_range octets at end))
  counts_wrong f place count written more e so_far =
      let wrong = goes_wrong depth at octets end inside f place so_far.done more (less_err (λ (x : Data × ℕ). x.1) _ f e) so_far.goes in
      rw wrong refl

  pub counts_all : (place count : ℕ) (written : Bool) → end ≤ place → Counts depth at octets end place count written → Ok count ≡ less length (members_at depth at (slice_range octets at end))
  counts_all place count written over so_far = rw (goes_all depth at octets end inside place so_far.done over so_far.goes) (ap (λ n. Ok n) (sym so_far.counted))

  pub stand_all : (place count : ℕ) (written : Bool) → end ≤ place → Counts depth at octets end place count written → written ≡ true
      → (ds : List Data) → members_at depth at (slice_range octets at end) ≡ Ok ds → slice_range octets at end ≡ written_all ds
  stand_all place count written over so_far t ds e =
      let there : place ≡ end = omega (arith, over, so_far.goes.order) in
      let same : so_far.done ≡ ds = ok_is _ _ (sym (goes_all depth at octets end inside place so_far.done over so_far.goes) ∙ e) in
      ap (slice_range octets at) (sym there) ∙ so_far.stand t ∙ ap written_all same

-- ---- what an answer that is exact says of spellings and faults

module _ (k L : ℕ) (depth : L + k ≡ 17) (p : ℕ) (o : List ℕ) where
  pub is_found : (r : Result ℕ Fault) → r ≡ less length (members_at k p o) → IfOk r (λ n. (ds : List Data) × SpellsAll ds L o × (length ds ≡ n))
  is_found (Ok n) e = let x = less_ok length (members_at k p o) n e in (x.0, all_found k L depth p o x.0 x.1, x.2)
  is_found (Err f) e = tt

  pub is_only : (r : Result ℕ Fault) → r ≡ less length (members_at k p o) → (ds : List Data) → SpellsAll ds L o → r ≡ Ok (length ds)
  is_only r e ds s = e ∙ ap (less length) (all_again k L depth p o ds s)

  pub is_fault : (r : Result ℕ Fault) → r ≡ less length (members_at k p o) → IfErr r (λ f. FaultIn f L p o)
  is_fault (Ok n) e = tt
  is_fault (Err f) e = all_wrong k L f depth p o (less_err length (members_at k p o) f e)

  pub is_fault_only : (r : Result ℕ Fault) → r ≡ less length (members_at k p o) → (f : Fault) → FaultIn f L p o → r ≡ Err f
  is_fault_only r e f h = e ∙ ap (less length) (all_wrong_again k L f depth p o h)

-- what a count says of the members that stand there
module _ (k L : ℕ) (first : 1 ≤ L) (depth : L + k ≡ 17) (p : ℕ) (o : List ℕ) (n : ℕ) (e : ◌≡◌ {A = Result ℕ Fault} (Ok n) (less length (members_at k p o))) where
  found : (ds : List Data) × (members_at k p o ≡ Ok ds) × (length ds ≡ n)
  found = less_ok length (members_at k p o) n e

  pub there : members_at k p o ≡ Ok (data_in k o)
  there = let x = found in x.1 ∙ ap (λ (ds : List Data). Ok ds) (sym (elsewhere k p o x.0 (omega (arith, first, depth)) x.1).1)

  pub spelled_there : SpellsAll (data_in k o) L o
  spelled_there = all_found k L depth p o (data_in k o) there

  pub counted_there : length (data_in k o) ≡ n
  counted_there = let x = found in ap length (elsewhere k p o x.0 (omega (arith, first, depth)) x.1).1 ∙ x.2

-- ---- one member

-- no member is read where no level may stand
pub too_deep : (depth p : ℕ) (o : List ℕ) (f : Fault) → depth ≡ 0 → f ≡ record { place = p; cause = causes.TooDeep } → Err f ≡ less (λ (x : Data × ℕ). x.1) (member_at depth p o)
unfolding member_at
too_deep depth p o f none is = rw (none, is) refl

pub member_wrong : (r : Result Data Fault) (f : Fault) (next : ℕ) → Err f ≡ less (λ (d : Data). tt {0}) r → Err f ≡ less (λ (x : Data × ℕ). x.1) (r >>= λ d. Ok (d, next))
member_wrong r f next e = rw (less_err (λ (d : Data). tt {0}) r f e) refl

pub member_good : (r : Result Data Fault) (u : Unit {0}) (next : ℕ) → Ok u ≡ less (λ (d : Data). tt {0}) r → Ok next ≡ less (λ (x : Data × ℕ). x.1) (r >>= λ d. Ok (d, next))
member_good r u next e = rw ((less_ok (λ (d : Data). tt {0}) r u e).1) refl

-- a member whose length is the shortest stands in its written form where its contents are the written ones
pub member_stands : (depth at : ℕ) (octets : List ℕ) (end : ℕ) (k : Kind) (h : Header) → AreOctets octets → end ≤ length octets → 0 < depth → IsHeader octets at end h → IsWithin at end h
    → known_at at (slice_range octets at end) ≡ Ok k → header_at at (slice_range octets at end) ≡ Ok h → h.contents_from - h.at ≡ header_size (h.contents_to - h.contents_from)
    → ((d : Data) → contents_at (members_at (depth - 1)) k h (contents_of octets h) ≡ Ok d → contents_of octets h ≡ written_contents d)
    → (d : Data) → member_at depth at (slice_range octets at end) ≡ Ok (d, h.contents_to) → slice_range octets at h.contents_to ≡ written_form d
member_stands depth at octets end k h small inside some is places known header short law d read =
    let there = member_there depth at octets end some k h places.at places.begins places.order places.within known header in
    let x = bind_ok (contents_at (members_at (depth - 1)) k h (contents_of octets h)) _ (d, h.contents_to) (sym there ∙ read) in
    let e = x.1 ∙ ap (λ (v : Data). Ok v) (sym (pair_is x.0 d h.contents_to h.contents_to x.2).0) in
    member_one (depth - 1) octets at end k h d small inside is (omega (arith, places.at, places.begins)) short known e (law d e)
