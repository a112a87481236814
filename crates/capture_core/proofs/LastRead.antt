-- What is told where no record or block may come any more, and after a capture has stopped.
use Rattle.std.proofs.Common.{◌≡◌, ◌≢◌, ℕ, ◌+◌, ◌<◌, zero, List, [], ◌∷◌, ◌++◌, length, Option, Some, None, Ok, Err, ap, sym, ◌∙◌, refl, suc, arith, inr}
use Rattle.list_core.specs.declared.device.InputEnd.{InputEnd}
use Rattle.list_core.specs.declared.device.InputEnd.TheVariants.{Open}
use Rattle.list_core.specs.Device.{GivesOctets, OnlyOpen}
use Rattle.list_core.specs.Lines.{Stop, finished, unfinished, faulty}
use Rattle.list_core.proofs.Readers.{OnlyOpen-none}
use Rattle.capture_core.specs.Capture.{ended, fault_in, records_of}
use Rattle.capture_core.specs.Packets.{stopped}
use Rattle.capture_core.specs.Blocks.{packets_of_blocks}
use Rattle.capture_core.specs.PacketReader.{AnswersPacket, CountsPacket, GivesPacket, KeepsPacket, PacketAnswer, PacketState, TellsPacket, events_behind, number_by, over, packets_behind, packets_from, stage_of}
use Rattle.capture_core.specs.computed.Filling.{Fills}
use Rattle.capture_core.specs.computed.OneRead.{Front, ReadsFront}
use Rattle.capture_core.specs.computed.Steps.{IsReading}
use Rattle.capture_core.specs.declared.filling.Filled.TheVariants as filled
use Rattle.capture_core.specs.declared.interface.Interface.{Interface}
use Rattle.capture_core.specs.declared.packet_reader.Progress.{Progress}
use Rattle.capture_core.specs.declared.packet_reader.Progress.TheVariants as progress
use Rattle.capture_core.specs.declared.capture_fault.CaptureCause.TheVariants as cause
use Rattle.capture_core.specs.declared.capture_fault.CaptureFault.{CaptureFault}
use Rattle.capture_core.proofs.Fronts.{asked_none, asked_short, front_whole}
use Rattle.capture_core.proofs.Records.{gave_nothing, nothing_follows}
use Rattle.capture_core.proofs.StepsRead.{spread, step_ends, step_fails}

-- how a capture stops of which no record or block may come any more
unfoldable pub last_front : InputEnd → ℕ → List ℕ → Front ℕ
last_front z n [] = Err (ended z n)
last_front z n (x ∷ xs) = Err (fault_in n cause.TooManyRecords)

last_open : (n : ℕ) (front : List ℕ) → length front < 1 → last_front Open n front ≡ Err unfinished
unfolding last_front
last_open n [] h = refl
last_open n (x ∷ xs) h = absurd (omega (arith, h))

last_more : (z : InputEnd) (n : ℕ) (octets more : List ℕ) → length octets ≡ 1 → last_front z n (octets ++ more) ≡ Err (fault_in n cause.TooManyRecords)
unfolding last_front
last_more z n [] more h = absurd (omega (arith, h))
last_more z n (x ∷ xs) more h = refl

last_end : (z : InputEnd) (n : ℕ) → last_front z n [] ≡ Err (ended z n)
unfolding last_front
last_end z n = refl

-- one octet more was read
pub last_whole : (n : ℕ) (stop : Stop CaptureFault) (octets : List ℕ) (old new : Option (List ℕ)) (z w : InputEnd) → length octets ≡ 1 → stop ≡ fault_in n cause.TooManyRecords →
    Fills old z filled.Whole octets new w → ReadsFront (λ y o. last_front y n o) [] old z (Err (Some stop)) new w
last_whole n stop octets old new z w one e f =
    front_whole (λ y o. last_front y n o) (Err (Some stop)) [] octets old new z w f.0 f.1 f.2 (λ front few. last_open n front (omega (arith, few, one))) (λ more y c. last_more y n octets more one ∙ ap Err (sym e))

-- no octet more was there
last_none : (n : ℕ) (stop : Stop CaptureFault) (old new : Option (List ℕ)) (z w : InputEnd) → GivesOctets old new [] → OnlyOpen z [] w → w ≢ Open → ended w n ≡ stop → ReadsFront (λ y o. last_front y n o) [] old z (Err (Some stop)) new w
last_none n stop old new z w took o shut e = record {
  given = [];
  took = took;
  only_open = o;
  asked = asked_short _ [] z w (λ front h. last_open n front (omega (arith, h)));
  stands = λ more y c.
      let none = nothing_follows w more y shut c in
      ap (λ (l : List ℕ). last_front y n l) none.0 ∙ last_end y n ∙ ap (λ (v : InputEnd). Err (ended v n)) none.1 ∙ ap Err e;
}

pub last_short : (n k : ℕ) (stop : Stop CaptureFault) (octets : List ℕ) (old new : Option (List ℕ)) (z w : InputEnd) → length octets ≡ 1 → ended w n ≡ stop →
    Fills old z (filled.Short k) octets new w → ReadsFront (λ y o. last_front y n o) [] old z (Err (Some stop)) new w
last_short n zero stop octets old new z w one e f = last_none n stop old new z w f.1 f.2 f.3 e
last_short n (suc k) stop octets old new z w one e f = absurd (omega (arith, f.0, one))

-- a capture of which no record or block may come
last_is : (p : Progress) (is : List Interface) (m n : ℕ) → IsReading p → (z : InputEnd) (o : List ℕ) → packets_from (stage_of p is m) n 0 z o ≡ spread (last_front z (n + 1) o) (λ x size. stopped finished)
unfolding last_front spread records_of packets_of_blocks
last_is progress.Nothing is m n h z o = absurd h
last_is (progress.Records form) is m n h z [] = refl
last_is (progress.Records form) is m n h z (x ∷ xs) = refl
last_is (progress.Blocks order) is m n h z [] = refl
last_is (progress.Blocks order) is m n h z (x ∷ xs) = refl
last_is (progress.Over fault) is m n h z o = absurd h
last_is progress.GivenUp is m n h z o = absurd h

module _ (old new : PacketState) (p : Progress) (is : List Interface) (m : ℕ) (at : old.stage ≡ stage_of p is m) (reading : IsReading p) (none : old.most ≡ 0) where
  last_spread : (y : InputEnd) (o : List ℕ) → packets_from old.stage old.answered old.most y o ≡ spread (last_front y (old.answered + 1) o) (λ x size. stopped finished)
  last_spread y o = rw (at, none) (last_is p is m old.answered reading y o)

  pub last_ends : {A : Type 0} → ReadsFront (λ y o. last_front y (old.answered + 1) o) [] old.left old.ending (Err (Some finished)) new.left new.ending → new.stage ≡ over finished → new.other_links ≡ old.other_links → AnswersPacket {A = A} old (Ok None) new
  last_ends r a t = step_ends (λ y o. last_front y (old.answered + 1) o) (λ x y o. stopped finished) old last_spread new r a t

  pub last_fails : {A : Type 0} (f : CaptureFault) → ReadsFront (λ y o. last_front y (old.answered + 1) o) [] old.left old.ending (Err (Some (faulty f))) new.left new.ending → new.stage ≡ over (faulty f) → new.other_links ≡ old.other_links → AnswersPacket {A = A} old (Err (Some f)) new
  last_fails f r a t = step_fails (λ y o. last_front y (old.answered + 1) o) (λ x y o. stopped finished) old last_spread new f r a t

-- ---- once more how a capture stopped

again : {A : Type 0} (s : PacketState) (answer : PacketAnswer A) → GivesPacket answer s.left s.left [] → KeepsPacket answer s [] s.ending → ((z : InputEnd) (o : List ℕ) → TellsPacket answer (events_behind s z o) (events_behind s z o)) →
    ((z : InputEnd) (o : List ℕ) → CountsPacket answer (packets_behind s z o) (packets_behind s z o) s.other_links s.other_links) → AnswersPacket s answer s
again s answer g k t u = record {
  given = [];
  took = g;
  only_open = OnlyOpen-none s.ending;
  asked = asked_none _ s.ending;
  kept = k;
  reads = λ more y c. t y more;
  counted = λ more y c. u y more;
}

pub over_ends : {A : Type 0} (s : PacketState) → s.stage ≡ over finished → AnswersPacket {A = A} s (Ok None) s
over_ends s e = again s (Ok None) (gave_nothing s.left) tt (λ z o. rw e (refl, refl)) (λ z o. refl)

pub over_fails : {A : Type 0} (s : PacketState) (f : CaptureFault) → s.stage ≡ over (faulty f) → AnswersPacket {A = A} s (Err (Some f)) s
over_fails s f e = again s (Err (Some f)) (gave_nothing s.left) tt (λ z o. rw e (refl, refl)) (λ z o. refl)

pub over_wants : {A : Type 0} (s : PacketState) → s.stage ≡ over unfinished → AnswersPacket {A = A} s (Err None) s
over_wants s e = again s (Err None) (gave_nothing s.left) (inr (inr (λ more y c. rw e refl))) (λ z o. rw e refl) (λ z o. refl)

-- a reader that reads has the number of the packet before
pub number_reading : (p : Progress) (n : ℕ) → IsReading p → number_by p n ≡ n
number_reading progress.Nothing n h = absurd h
number_reading (progress.Records form) n h = refl
number_reading (progress.Blocks order) n h = refl
number_reading (progress.Over fault) n h = absurd h
number_reading progress.GivenUp n h = absurd h
