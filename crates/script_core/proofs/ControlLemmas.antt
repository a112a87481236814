-- A control line by its first seven fields, and the numbers behind them.
use Rattle.std.proofs.Common.{◌≡◌, ℕ, List, [], ◌∷◌, Option, Some, None, refl}
use Rattle.frame_core.specs.declared.vlan_tag.VlanTag.{VlanTag}
use Rattle.block_core.specs.Commas.{octets_in, text_in, word_in}
use Rattle.script_core.specs.computed.ControlLine.{control_of, control_with, numbers_in}
use Rattle.script_core.specs.ScriptFields.{tag_in}

-- no control line says no numbers
no_numbers : (a b : Option (List ℕ)) (c : Option (Option VlanTag)) (d : Option ℕ) (e f g : Option (List ℕ)) → None ≡ control_with a b c d e f g None
no_numbers None b c d e f g = refl
no_numbers (Some a) None c d e f g = refl
no_numbers (Some a) (Some b) None d e f g = refl
no_numbers (Some a) (Some b) (Some c) None e f g = refl
no_numbers (Some a) (Some b) (Some c) (Some d) None f g = refl
no_numbers (Some a) (Some b) (Some c) (Some d) (Some e) None g = refl
no_numbers (Some a) (Some b) (Some c) (Some d) (Some e) (Some f) None = refl
no_numbers (Some a) (Some b) (Some c) (Some d) (Some e) (Some f) (Some g) = refl

pub by_numbers : (a b c d e f g : List ℕ) (rest : List (List ℕ)) → control_of (a ∷ b ∷ c ∷ d ∷ e ∷ f ∷ g ∷ rest) ≡ control_with (octets_in 6 a) (octets_in 6 b) (tag_in c) (word_in d) (text_in e) (text_in f) (text_in g) (numbers_in rest)
by_numbers a b c d e f g [] = no_numbers (octets_in 6 a) (octets_in 6 b) (tag_in c) (word_in d) (text_in e) (text_in f) (text_in g)
by_numbers a b c d e f g (h ∷ []) = no_numbers (octets_in 6 a) (octets_in 6 b) (tag_in c) (word_in d) (text_in e) (text_in f) (text_in g)
by_numbers a b c d e f g (h ∷ i ∷ []) = no_numbers (octets_in 6 a) (octets_in 6 b) (tag_in c) (word_in d) (text_in e) (text_in f) (text_in g)
by_numbers a b c d e f g (h ∷ i ∷ j ∷ []) = no_numbers (octets_in 6 a) (octets_in 6 b) (tag_in c) (word_in d) (text_in e) (text_in f) (text_in g)
by_numbers a b c d e f g (h ∷ i ∷ j ∷ k ∷ []) = no_numbers (octets_in 6 a) (octets_in 6 b) (tag_in c) (word_in d) (text_in e) (text_in f) (text_in g)
by_numbers a b c d e f g (h ∷ i ∷ j ∷ k ∷ l ∷ []) = refl
by_numbers a b c d e f g (h ∷ i ∷ j ∷ k ∷ l ∷ m ∷ more) = no_numbers (octets_in 6 a) (octets_in 6 b) (tag_in c) (word_in d) (text_in e) (text_in f) (text_in g)
