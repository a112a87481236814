-- The text of a list that is written, and what its replay writes.
use Rattle.std.specs.Prelude.{◌≡◌, ℕ, ◌+◌, ◌<◌, ◌^◌, List, [], ◌∷◌, ◌++◌, codes}
use Rattle.std.specs.List.{All, flat_map}
use Rattle.list_core.specs.declared.device.InputEnd.TheVariants.{End}
use Rattle.list_core.specs.declared.event.Event.{Event}
use Rattle.list_core.specs.declared.event_lines.EventLines.TheVariants.{First}
use Rattle.list_core.specs.declared.list_fault.ListCause.{ListCause}
use Rattle.list_core.specs.EventLine.{event_rules}
use Rattle.list_core.specs.EventText.{HoldsOctets, IsListable, event_text}
use Rattle.list_core.specs.Items.{Listing, listing}
use Rattle.list_core.specs.Lines.{finished}
use Rattle.frame_core.specs.Written.{written_frame}
use Rattle.publish_core.specs.Run.{Call}
use Rattle.subscribe_core.specs.declared.entry.Entry.{Entry}
use Rattle.joint_laws.specs.PublishedList.{Sent}
use Rattle.engine_core.specs.EngineText.{Text}
use Rattle.engine_core.specs.computed.WholeText.{whole_text, told}
use Rattle.exchange_engines.specs.EntryText.{entry_lines}

-- a list of version 2: the line `V2`, and the one line of each event
abbrev pub list_text : {A : Type 0} → List (Event A) → List ℕ
list_text events = codes "V2\n" ++ flat_map event_text events

-- each event can stand in a list, and its octets are octets
abbrev pub CanBeListed : {A : Type 0} → List (Event A) → Type 0
CanBeListed [] = Unit {0}
CanBeListed (e ∷ es) = (IsListable e × HoldsOctets e.kind) × CanBeListed es

-- what the whole text of a list says
abbrev pub list_of_text : {A : Type 0} → List ℕ → Listing (Event A) ListCause
list_of_text text = listing event_rules First End 0 text

-- every number in the frames that are sent is an octet
abbrev pub SendsOctets : {A : Type 0} → List (Sent A) → Type 0
SendsOctets [] = Unit {0}
SendsOctets (s ∷ rest) = All (λ x. x < 256) (written_frame s.frame) × SendsOctets rest

-- the moments of the calls have at most 18 digits, as those in a list do
abbrev pub MomentsAreShort : List Call → Type 0
MomentsAreShort [] = Unit {0}
MomentsAreShort (c ∷ cs) = (c.moment < 10 ^ 18) × MomentsAreShort cs

-- the lines of the entries of events, of which the first stands in line n
abbrev pub lines_from : {A : Type 0} → ℕ → List (List (Entry A)) → List ℕ
lines_from n [] = []
lines_from n (es ∷ rest) = entry_lines n es ++ lines_from (n + 1) rest

-- a replay of a list writes the lines of these entries, event by event, and nothing else, and reads the list to its end
pub record ReplayGives {A : Type 0} (t : Text (Event A) ListCause) (text : List ℕ) (entries : List (List (Entry A))) : Type 0 where
  pub writes : whole_text t (list_of_text text) ≡ lines_from 2 entries
  pub to_its_end : (told t (list_of_text text)).stop ≡ finished
