-- What one field of a line of a script says.
use Rattle.std.specs.Prelude.{ℕ, ◌==◌, Bool, true, false, List, [], ◌∷◌, Option, Some, None, option_map, if◌then◌else◌}
use Rattle.hex.specs.Hex.{decode_of}
use Rattle.mms_data.specs.Utc.{utc_of}
use Rattle.mms_data.specs.declared.time.UtcTime.{UtcTime}
use Rattle.list_core.specs.EventLine.{decoded}
use Rattle.frame_core.specs.declared.vlan_tag.VlanTag.{VlanTag}
use Rattle.block_core.specs.Commas.{octets_in, word_in}

-- a flag: 0 or 1
abbrev pub flag_in : List ℕ → Option Bool
flag_in (d ∷ []) = if d == 48 then Some false else (if d == 49 then Some true else None)
flag_in _ = None

-- a tag by four hexadecimal digits; an empty field is none
abbrev pub tag_in : List ℕ → Option (Option VlanTag)
tag_in [] = Some None
tag_in (d ∷ ds) = option_map (λ (n : ℕ). Some (record { control = n })) (word_in (d ∷ ds))

-- a time of change by 16 hexadecimal digits
abbrev pub time_in : List ℕ → Option UtcTime
time_in digits = option_map utc_of (octets_in 8 digits)

-- octets by hexadecimal digits, also none
abbrev pub all_octets_in : List ℕ → Option (List ℕ)
all_octets_in digits = decoded (decode_of digits)
