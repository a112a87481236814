-- Frames with tags put round them, computed: a wrong definition does not check.
use Rattle.std.proofs.Common.{◌≡◌, ℕ, List, [], ◌∷◌, ◌++◌, refl}
use Rattle.unwrap_core.specs.Unwrapped.{unwrapped}

abbrev addresses : List ℕ
addresses = 0x01 ∷ 0x0c ∷ 0xcd ∷ 0x01 ∷ 0x00 ∷ 0x01 ∷ 0x02 ∷ 0x00 ∷ 0x00 ∷ 0x00 ∷ 0x00 ∷ 0x01 ∷ []

-- an EtherType and an octet
abbrev goose : List ℕ
goose = 0x88 ∷ 0xb8 ∷ 0x01 ∷ []

-- an HSR tag: path 1, 154 octets, number 7
abbrev ring : List ℕ
ring = 0x89 ∷ 0x2f ∷ 0x10 ∷ 0x9a ∷ 0x00 ∷ 0x07 ∷ []

-- VLAN tags: one of a customer with priority 4, one of a provider
abbrev tag : List ℕ
tag = 0x81 ∷ 0x00 ∷ 0x80 ∷ 0x00 ∷ []

abbrev outer : List ℕ
outer = 0x88 ∷ 0xa8 ∷ 0x00 ∷ 0x64 ∷ []

-- what is taken out, and what stays
pub record AreUnwrapped : Type 0 where
  pub none : unwrapped (addresses ++ goose) ≡ addresses ++ goose
  pub own_tag : unwrapped (addresses ++ tag ++ goose) ≡ addresses ++ tag ++ goose
  pub hsr : unwrapped (addresses ++ ring ++ goose) ≡ addresses ++ goose
  pub hsr_before_tag : unwrapped (addresses ++ ring ++ tag ++ goose) ≡ addresses ++ tag ++ goose
  pub hsr_behind_tag : unwrapped (addresses ++ tag ++ ring ++ goose) ≡ addresses ++ tag ++ goose
  pub two_tags : unwrapped (addresses ++ outer ++ tag ++ goose) ≡ addresses ++ tag ++ goose
  pub inner_of_provider : unwrapped (addresses ++ tag ++ outer ++ goose) ≡ addresses ++ outer ++ goose
  pub two_rings : unwrapped (addresses ++ ring ++ ring ++ goose) ≡ addresses ++ goose
  pub all : unwrapped (addresses ++ outer ++ ring ++ tag ++ ring ++ goose) ≡ addresses ++ tag ++ goose
  pub provider_alone : unwrapped (addresses ++ outer ++ goose) ≡ addresses ++ outer ++ goose
  pub cut_off : unwrapped (addresses ++ ring ++ 0x88 ∷ []) ≡ addresses ++ ring ++ 0x88 ∷ []
  pub just_there : unwrapped (addresses ++ ring ++ 0x88 ∷ 0xb8 ∷ []) ≡ addresses ++ 0x88 ∷ 0xb8 ∷ []
  pub inner_word_cut : unwrapped (addresses ++ outer ++ 0x81 ∷ []) ≡ addresses ++ outer ++ 0x81 ∷ []
  pub inner_word_there : unwrapped (addresses ++ outer ++ 0x81 ∷ 0x00 ∷ []) ≡ addresses ++ 0x81 ∷ 0x00 ∷ []

pub unwrapped_frames : AreUnwrapped
unfolding unwrapped
unwrapped_frames = record {
  none = refl;
  own_tag = refl;
  hsr = refl;
  hsr_before_tag = refl;
  hsr_behind_tag = refl;
  two_tags = refl;
  inner_of_provider = refl;
  two_rings = refl;
  all = refl;
  provider_alone = refl;
  cut_off = refl;
  just_there = refl;
  inner_word_cut = refl;
  inner_word_there = refl;
}
