-- The sizes of the frames of a state, which differ in the octets of two numbers alone: beneath the definition of what is too
-- long, to which lemmas tie them.
use Rattle.std.specs.Prelude.{◌≤◌, ◌+◌, ℕ, pos, List, ◌++◌, length, take, drop, Option, Some, None, IfSome}
use Rattle.ber_core.specs.Written.{short_integer, signed_size}
use Rattle.mms_data.specs.Written.{header_size}
use Rattle.frame_core.specs.declared.encoding.EncodeFault.{EncodeFault}
use Rattle.frame_core.specs.declared.encoding.EncodeFault.TheVariants as encode
use Rattle.frame_core.specs.declared.vlan_tag.VlanTag.{VlanTag}
use Rattle.frame_core.specs.Written.{IsTooLong}
use Rattle.publish_core.specs.declared.control.Control.{Control}
use Rattle.publish_core.specs.declared.table.Step.{Step}
use Rattle.publish_core.specs.Frames.{Change, frame_with}
use Rattle.publish_core.specs.Refusal.{CanBeSpelled}
use Rattle.publish_core.specs.computed.Step.{judged_number}
use Rattle.publish_core.specs.Table.{step_at}

-- the octets of the words of a tag, and of the five words that stand before an APDU in any frame
abbrev pub words_size : Option VlanTag → ℕ
words_size None = 10
words_size (Some tag) = 14

-- the octets that stand before an APDU
abbrev pub head_size : {A : Type 0} → Control A → ℕ
head_size control = length control.destination + length control.source + words_size control.tag

-- why the frame of a change with these numbers has no octets
abbrev pub IsEncodeFault : {A : Type 0} → Control A → Change → ℕ → ℕ → ℕ → EncodeFault → Type 0
IsEncodeFault control change state sequence live encode.NotSpellable = ¬ CanBeSpelled control change
IsEncodeFault control change state sequence live encode.TooLong = CanBeSpelled control change × IsTooLong (frame_with control change state sequence live)

-- where the APDU of the first frame has so many octets: the longest frame of step i is not too long
abbrev pub StepFits : List Step → ℕ → ℕ → Type 0
StepFits table apdu i = apdu + signed_size (step_at table i).live_ms + signed_size (judged_number table i) ≤ 1493 + signed_size (step_at table 0).live_ms

-- the octets of the element of a text
abbrev pub text_size : List ℕ → ℕ
text_size t = header_size (length t) + length t

abbrev pub text_size_if : Option (List ℕ) → ℕ
text_size_if None = 0
text_size_if (Some t) = text_size t

-- the texts of a control are those of a frame that is not too long
pub record HasShortTexts {A : Type 0} (control : Control A) : Type 0 where
  pub gocb_ref : length control.gocb_ref ≤ 1600
  pub dat_set : length control.dat_set ≤ 1600
  pub go_id : IfSome control.go_id (λ t. length t ≤ 1600)

-- the octets before those of the lifetime, where the fields of the APDU have so many
abbrev pub live_place : {A : Type 0} → Control A → ℕ → ℕ
live_place control fields = head_size control + header_size fields + text_size control.gocb_ref + 2

-- the octets between those of the lifetime and those of the sequence number
abbrev pub between_size : {A : Type 0} → Control A → ℕ → ℕ
between_size control state = text_size control.dat_set + text_size_if control.go_id + signed_size state + 14

-- a number written over those octets of a list that stand from a place on
abbrev pub written_over : List ℕ → ℕ → ℕ → List ℕ
written_over octets place n = take place octets ++ (short_integer (pos n) ++ drop (place + signed_size n) octets)
