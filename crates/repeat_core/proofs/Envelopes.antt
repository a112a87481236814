-- The envelope of octets that are alike.
use Rattle.std.proofs.Common.{◌≡◌, ℕ, ◌+◌, ◌≤◌, cond, eqb, List, length, sym, ap, ap₂, subst, ◌∙◌, arith}
use Rattle.std.specs.Prelude.{slice_range}
use Rattle.frame_core.specs.Apdu.{IsApduType}
use Rattle.frame_core.specs.Envelope.{apdu_to, ether_place, word_at}
use Rattle.frame_core.specs.FrameFault.{HasApdu}
use Rattle.frame_core.proofs.EnvelopeLaws.{at_least, passes, passes_again}
use Rattle.frame_core.proofs.FrameParts.{word_here, word_is}
use Rattle.repeat_core.specs.Standing.{HasEnvelopeAt}

module _ (held octets : List ℕ) (size : length octets ≡ length held) (b : ℕ) (front : (i j : ℕ) → i ≤ j → j ≤ b → slice_range octets i j ≡ slice_range held i j) where
  pub word_same : (p : ℕ) → p + 2 ≤ b → p + 2 ≤ length held → word_at octets p ≡ word_at held p
  word_same p low within = word_is octets p (word_at held p) (slice_range held p (p + 2)) (omega (arith, size)) (front p (p + 2) (omega arith) low) (word_here held p within)

  module _ (place end : ℕ) (has : HasEnvelopeAt held place end) (reach : place + 10 ≤ b) where
    apdu : HasApdu held
    apdu = passes held has.judged

    place_same : ether_place octets ≡ ether_place held
    place_same = ap (λ (w : ℕ). cond (eqb w 0x8100) 16 12) (word_same 12 (omega (arith, reach, has.place_is, at_least held)) (omega (arith, apdu.head.front.addresses)))

    at_place : (k : ℕ) → k + 2 ≤ 10 → word_at octets (ether_place octets + k) ≡ word_at held (ether_place held + k)
    at_place k small = ap (λ (p : ℕ). word_at octets (p + k)) place_same ∙ word_same (ether_place held + k) (omega (arith, reach, has.place_is)) (omega (arith, apdu.head.there))

    type_same : word_at octets (ether_place octets) ≡ word_at held (ether_place held)
    type_same = ap (word_at octets) place_same ∙ word_same (ether_place held) (omega (arith, reach, has.place_is)) (omega (arith, apdu.head.there))

    end_same : apdu_to octets ≡ apdu_to held
    end_same = ap₂ (λ (p w : ℕ). p + 2 + w) place_same (at_place 4 (omega arith))

    has_again : HasApdu octets
    has_again = record {
      head = record {
        front = record {
          short = omega (arith, size, apdu.head.front.short);
          addresses = omega (arith, size, apdu.head.front.addresses);
          there = omega (arith, size, place_same, apdu.head.front.there);
        };
        announced = subst IsApduType (sym type_same) apdu.head.announced;
        there = omega (arith, size, place_same, apdu.head.there);
      };
      low = omega (arith, at_place 4 (omega arith), apdu.low);
      high = omega (arith, at_place 4 (omega arith), apdu.high);
      there = omega (arith, size, end_same, apdu.there);
    }

    pub envelope_again : HasEnvelopeAt octets place end
    envelope_again = record {
      judged = passes_again octets has_again;
      announced = type_same ∙ has.announced;
      place_is = has.place_is ∙ sym place_same;
      end_is = has.end_is ∙ sym end_same;
    }
