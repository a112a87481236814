-- A frame without what a ring or a provider's network put round it: without HSR tags (IEC 62439-3), and without each VLAN tag before
-- another (IEEE 802.1Q). What then stands behind the addresses is its own tag, or its EtherType.
use Rattle.std.specs.Prelude.{◌≡◌, ◌+◌, ◌==◌, ◌&&◌, ◌||◌, ℕ, zero, suc, Bool, List, length, nat_le, Option, Some, None, option_map, if◌then◌else◌}
use Rattle.std.specs.Option.{option_map_or}
use Rattle.frame_core.specs.Envelope.{word_at}
use Rattle.unwrap_core.specs.Tags.{HsrTagAt, VlanTagAt, without}

-- One tag is taken out of o, and p is left: an HSR tag behind the addresses; one behind a VLAN tag; or a VLAN tag before another.
pub data TakesOut (o p : List ℕ) : Type 0 where
  hsr_tag : HsrTagAt 12 o → p ≡ without 12 6 o → TakesOut o p
  hsr_tag_behind : VlanTagAt 12 o → HsrTagAt 16 o → p ≡ without 16 6 o → TakesOut o p
  outer_tag : VlanTagAt 12 o → VlanTagAt 16 o → p ≡ without 12 4 o → TakesOut o p

-- o has no tag that is taken out
abbrev pub IsBare : List ℕ → Type 0
IsBare o = (p : List ℕ) → TakesOut o p → ⊥

-- u is left of o where tags are taken out one after another, until there is none
pub data Unwraps : List ℕ → List ℕ → Type 0 where
  bare : {o : List ℕ} → IsBare o → Unwraps o o
  taken : {o u : List ℕ} (p : List ℕ) → TakesOut o p → Unwraps p u → Unwraps o u

-- ---- the same, computed

-- whether such a tag stands at a place
abbrev pub is_hsr_tag_at : ℕ → List ℕ → Bool
is_hsr_tag_at p o = word_at o p == 0x892f && nat_le (p + 8) (length o)

abbrev pub is_vlan_tag_at : ℕ → List ℕ → Bool
is_vlan_tag_at p o = (word_at o p == 0x8100 || word_at o p == 0x88a8) && nat_le (p + 2) (length o)

-- the place of the tag that is taken out, and how many octets it has, where a VLAN tag stands behind the addresses
abbrev pub tag_behind : List ℕ → Option (ℕ × ℕ)
tag_behind o = if is_hsr_tag_at 16 o then Some (16, 6) else (if is_vlan_tag_at 16 o then Some (12, 4) else None)

-- the same of any frame
abbrev pub tag_in : List ℕ → Option (ℕ × ℕ)
tag_in o = if is_hsr_tag_at 12 o then Some (12, 6) else (if is_vlan_tag_at 12 o then tag_behind o else None)

-- what is left where a tag is taken out
abbrev pub tag_out : List ℕ → Option (List ℕ)
tag_out o = option_map (λ t. without t.0 t.1 o) (tag_in o)

-- what is left where at most so many tags are taken out
abbrev pub unwrapped_within : ℕ → List ℕ → List ℕ
unwrapped_within zero o = o
unwrapped_within (suc n) o = option_map_or (unwrapped_within n) (tag_out o) o

-- the frame unwrapped: no frame has more tags than octets
unfoldable pub unwrapped : List ℕ → List ℕ
unwrapped o = unwrapped_within (length o) o
