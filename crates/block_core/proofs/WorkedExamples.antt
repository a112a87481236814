-- What a few fields and blocks say, computed.
use Rattle.std.proofs.Common.{◌≡◌, None, Some, [], ◌∷◌, refl}
use Rattle.std.specs.Prelude.{codes}
use Rattle.hex.specs.Hex.{decode_pairs}
use Rattle.block_core.specs.BlockText.{block_in}
use Rattle.block_core.specs.Commas.{number_by, text_in, word_in}

pub record AreFields : Type 0 where
  pub most : number_by (codes "4294967295") ≡ Some 4294967295
  pub too_much : number_by (codes "4294967296") ≡ None
  pub zeros : number_by (codes "0000000007") ≡ Some 7
  pub too_long : number_by (codes "00000000007") ≡ None
  pub no_digit : number_by [] ≡ None
  pub word : word_in (codes "00fF") ≡ Some 255
  pub short_word : word_in (codes "0ff") ≡ None
  pub empty_text : text_in [] ≡ Some []
  pub no_text : text_in (9 ∷ []) ≡ None

fields : AreFields
unfolding decode_pairs
fields = record { most = refl; too_much = refl; zeros = refl; too_long = refl; no_digit = refl; word = refl; short_word = refl; empty_text = refl; no_text = refl }

-- a goID that is empty is not looked at; a field more is no block
pub record AreBlocks : Type 0 where
  pub block : block_in {A = Unit {0}} (codes "0001,G,D,,1,4") ≡ Some (record { app_id = 1; gocb_ref = 71 ∷ []; dat_set = 68 ∷ []; go_id = None; conf_rev = 1; entries = 4 })
  pub named : block_in {A = Unit {0}} (codes "0001,G,D,I,1,4") ≡ Some (record { app_id = 1; gocb_ref = 71 ∷ []; dat_set = 68 ∷ []; go_id = Some (73 ∷ []); conf_rev = 1; entries = 4 })
  pub field_more : block_in {A = Unit {0}} (codes "0001,G,D,,1,4,") ≡ None

blocks : AreBlocks
unfolding decode_pairs
blocks = record { block = refl; named = refl; field_more = refl }
