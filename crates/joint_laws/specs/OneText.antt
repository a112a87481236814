-- What an engine writes is one text: two texts of one engine say the same.
use Rattle.std.specs.Prelude.{◌≡◌}
use Rattle.list_core.specs.Items.{Listing}
use Rattle.engine_core.specs.EngineText.{Text}
use Rattle.engine_core.specs.computed.WholeText.{told, whole_text}

-- two texts say the same of a list, item by item and in its end
pub record SaySame {X C : Type 0} (t u : Text X C) (l : Listing X C) : Type 0 where
  pub same_text : whole_text t l ≡ whole_text u l
  pub same_account : told t l ≡ told u l
