-- The lines of a subscriber's entries.
use Rattle.std.specs.Prelude.{ℕ, List, ◌++◌, codes}
use Rattle.std.specs.Fmt.{decimal}
use Rattle.std.specs.List.{flat_map}
use Rattle.subscribe_core.specs.declared.entry.Entry.{Entry}
use Rattle.subscribe_core.specs.declared.entry.Entry.TheVariants as says
use Rattle.text_core.specs.LineText.{fault_line}
use Rattle.exchange_engines.specs.ExchangeNames.{name_of_reason}
use Rattle.text_core.specs.ValueText.{members_text, time_text}

-- the number of the line, a word, and the position of the block
abbrev pub entry_head : ℕ → List ℕ → ℕ → List ℕ
entry_head n word block = decimal n ++ word ++ decimal block

-- a frame's stNum and sqNum
abbrev pub pair_text : ℕ → ℕ → List ℕ
pair_text state sequence = codes " st=" ++ decimal state ++ codes " sq=" ++ decimal sequence

-- what an entry about a frame's numbers says
abbrev pub pair_line : ℕ → List ℕ → ℕ → ℕ → ℕ → List ℕ
pair_line n word block state sequence = entry_head n word block ++ pair_text state sequence ++ codes "\n"

-- the line of an entry
abbrev pub entry_line : {A : Type 0} → ℕ → Entry A → List ℕ
entry_line n (says.Expired block) = entry_head n (codes " expired ") block ++ codes "\n"
entry_line n (says.Switched block) = entry_head n (codes " switched ") block ++ codes "\n"
entry_line n (says.Act block state sequence t members) =
    entry_head n (codes " act ") block ++ pair_text state sequence ++ (codes " t=" ++ time_text t) ++ (codes " " ++ members_text members) ++ codes "\n"
entry_line n (says.Refreshed block state sequence) = pair_line n (codes " refreshed ") block state sequence
entry_line n (says.Repeated block state sequence) = pair_line n (codes " repeated ") block state sequence
entry_line n (says.Older block state sequence) = pair_line n (codes " old ") block state sequence
entry_line n (says.Refused block reason) = entry_head n (codes " refused ") block ++ (codes " " ++ name_of_reason reason) ++ codes "\n"
entry_line n says.NotSubscribed = decimal n ++ codes " not-subscribed\n"
entry_line n says.Sampled = decimal n ++ codes " sampled\n"
entry_line n (says.Faulty fault) = fault_line n fault

-- the lines of the entries of an event
abbrev pub entry_lines : {A : Type 0} → ℕ → List (Entry A) → List ℕ
entry_lines n entries = flat_map (entry_line n) entries
