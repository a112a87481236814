-- The frame that is noted of octets is that of octets that are alike, but for two numbers: what is kept beside the one suits the other.
use Rattle.std.proofs.Common.{Bool, ◌≡◌, ℕ, ◌+◌, ◌≤◌, true, cond, eqb, List, length, Result, Ok, Option, Some, None, refl, sym, ap, ap₂, subst, ◌∙◌, arith}
use Rattle.std.proofs.Math.Logic.{∥∥₁_elim}
use Rattle.std.proofs.lemmas.Bool.{false≢true}
use Rattle.std.specs.Borrow.{Bor}
use Rattle.std.specs.Prelude.{slice_range, is_some, option_copied, IfSome}
use Rattle.frame_core.specs.Envelope.{ether_place, word_at}
use Rattle.frame_core.specs.computed.FrameReading.{frame_at, tag_at}
use Rattle.frame_core.specs.declared.frame.Apdu.TheVariants.{Goose}
use Rattle.frame_core.specs.declared.frame.Frame.{Frame}
use Rattle.frame_core.proofs.EnvelopeLaws.{at_least}
use Rattle.frame_core.proofs.FrameParts.{same_parts}
use Rattle.frame_core.proofs.ReadingLaws.{frame_again}
use Rattle.frame_core.proofs.Seen.{seen_found}
use Rattle.pdu_core.specs.declared.goose.GoosePdu.{GoosePdu}
use Rattle.repeat_core.specs.Alike.{AreAlike}
use Rattle.repeat_core.specs.Beside.{IsKeptOf, Repeats}
use Rattle.repeat_core.specs.Noted.{IsPlaced, noted_frame, noted_pdu}
use Rattle.repeat_core.specs.Again.{ShowsAgain}
use Rattle.repeat_core.specs.Standing.{Shows}
use Rattle.repeat_core.specs.declared.again.Again.{Again}
use Rattle.repeat_core.specs.declared.notes.Notes.{Notes}
use Rattle.repeat_core.proofs.AlikeParts.{inner_same, low_same, pdu_same}
use Rattle.repeat_core.proofs.Envelopes.{word_same}

-- two frames that are read from the same octets are one
pub same_frame : {F : Type 0} (r : Result (Frame (Unit {0})) F) (f h : Frame (Unit {0})) → r ≡ Ok f → r ≡ Ok h → f ≡ h
same_frame r f h is too = cc

-- the frame that is noted is the one that is read
pub noted_read : (o : List ℕ) (n : Notes) (live sq_num : ℕ) → Shows o n live sq_num → frame_at o ≡ Ok (noted_frame o n live sq_num)
noted_read o n live sq_num s =
    let e = s.envelope in
    frame_again o (noted_frame o n live sq_num) (seen_found o n.ether_type n.end 0x88b8 e.place_is e.end_is (sym e.announced ∙ ap (word_at o) (sym e.place_is)) (Goose (noted_pdu o n live sq_num)) e.judged refl s.spelled
    _ refl _ refl _ refl _ refl _ refl _ refl _ refl)

module _ (held octets : List ℕ) (n : Notes) (same : AreAlike held octets n) (placed : IsPlaced (length held) n) (place : n.ether_type ≡ ether_place octets) where
  low : 12 ≤ n.ether_type
  low = omega (arith, place, at_least octets)

  word_again : (p : ℕ) → p + 2 ≤ n.ether_type + 10 → word_at octets p ≡ word_at held p
  word_again p within =
      let before : p + 2 ≤ n.live.at = omega (arith, placed.apdu) in
      word_same held octets same.size n.live.contents_from (low_same held octets n same placed) p (omega (arith, placed.live))
      (omega (arith, placed.live, placed.live_ends, placed.between, placed.sq_num, placed.sq_num_ends, placed.behind, placed.inside))

  tag_again : tag_at octets ≡ tag_at held
  tag_again = ap₂ (λ (w v : ℕ). cond (eqb w 0x8100) (Some (record { control = v })) None) (word_again 12 (omega (arith, low))) (word_again 14 (omega (arith, low)))

  trailer_again : slice_range octets n.end (length octets) ≡ slice_range held n.end (length held)
  trailer_again =
      inner_same held octets n.sq_num.contents_to (length octets) (length held) n.end (length octets) same.back placed.behind (omega (arith, same.size, placed.inside)) (omega arith) (omega (arith, same.size))
      ∙ ap (slice_range held n.end) same.size

  pub noted_again : (live sq_num : ℕ) → noted_frame octets n live sq_num ≡ noted_frame held n live sq_num
  noted_again live sq_num =
      let first : 12 ≤ n.live.contents_from = omega (arith, low, placed.apdu, placed.live) in
      same_parts (noted_frame held n live sq_num) (Goose (noted_pdu octets n live sq_num)) _ _ _ _ _ _ _
      (low_same held octets n same placed 0 6 (omega arith) (omega arith)) (low_same held octets n same placed 6 12 (omega arith) first) tag_again
      (word_again (n.ether_type + 2) (omega arith)) (word_again (n.ether_type + 6) (omega arith)) (word_again (n.ether_type + 8) (omega arith))
      (ap (λ (p : GoosePdu (Unit {0})). Goose p) (sym (pdu_same held octets n same placed live sq_num))) trailer_again

module _ {B : Type 0} (suits : B → Frame (Unit {0}) → Type 0) where
  -- what suits the frame of octets suits the frame that is held, if these are alike to that
  pub kept : (b : B) (held o : List ℕ) (n : Notes) (w : Bool) (r : Option (ℕ × ℕ)) → is_some r ≡ true → IfSome r (λ x. ShowsAgain o n x.0 x.1 w) → IfSome r (λ _. noted_frame o n 0 0 ≡ noted_frame held n 0 0) → IsKeptOf suits b o
      → suits b (noted_frame held n 0 0)
  kept b held o n w (Some x) is shown same of = subst (suits b) same (of (noted_frame o n x.0 x.1) (noted_read o n x.0 x.1 shown.shows))
  kept b held o n w None is shown same of = absurd (false≢true is)

  -- and the other way round
  suited : (once : (b : B) (f : Frame (Unit {0})) → IsProp (suits b f)) (u w : Frame (Unit {0})) → u ≡ w → (r : Option (Bor B)) → ∥ IfSome (option_copied r) (λ b. suits b w) ∥₁ → IfSome r (λ b. suits b.now u)
  suited once u w same None t = tt
  suited once u w same (Some b) t = subst (suits b.now) (sym same) (∥∥₁_elim t (once b.now w) (λ h. h))

  pub repeats : (once : (b : B) (f : Frame (Unit {0})) → IsProp (suits b f)) (a : Again B) (held o : List ℕ) (there : Option B) → option_copied a.beside ≡ there → Shows o a.notes.now a.live a.sq_num
      → noted_frame o a.notes.now 0 0 ≡ noted_frame held a.notes.now 0 0 → ∥ IfSome there (λ b. suits b (noted_frame held a.notes.now 0 0)) ∥₁ → Repeats suits a o
  repeats once a held o there is shown same t = record {
    frame = noted_frame o a.notes.now a.live a.sq_num;
    read = noted_read o a.notes.now a.live a.sq_num shown;
    goose = (refl, refl);
    numbered = refl;
    beside = suited once _ _ same a.beside (subst (λ (k : Option B). ∥ IfSome k (λ b. suits b (noted_frame held a.notes.now 0 0)) ∥₁) (sym is) t);
  }
