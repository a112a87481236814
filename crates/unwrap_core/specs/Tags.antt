-- The tags that a ring or a provider's network puts into a frame, behind the two addresses or behind another tag.
use Rattle.std.specs.Prelude.{◌≡◌, ◌≤◌, ◌+◌, ◌⊎◌, ℕ, List, length, take, drop, ◌++◌}
use Rattle.frame_core.specs.Envelope.{word_at}

-- at this place of o stands an HSR tag (IEC 62439-3): the word 89 2F, path and size, the sequence number; and behind these six octets an EtherType
abbrev pub HsrTagAt : ℕ → List ℕ → Type 0
HsrTagAt p o = (word_at o p ≡ 0x892f) × (p + 8 ≤ length o)

-- at this place stands the word that announces a VLAN tag (IEEE 802.1Q), of a customer (81 00) or of a provider (88 A8)
abbrev pub VlanTagAt : ℕ → List ℕ → Type 0
VlanTagAt p o = ((word_at o p ≡ 0x8100) ⊎ (word_at o p ≡ 0x88a8)) × (p + 2 ≤ length o)

-- o without the octets from this place on, so many
abbrev pub without : ℕ → ℕ → List ℕ → List ℕ
without p count o = take p o ++ drop (p + count) o
