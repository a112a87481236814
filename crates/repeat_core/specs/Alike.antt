-- Octets that are the same but for the contents of timeAllowedtoLive and sqNum.
use Rattle.std.specs.Prelude.{◌≡◌, ℕ, List, length, slice_range}
use Rattle.repeat_core.specs.declared.notes.Notes.{Notes}

-- the octets are those that are held but for the contents of the two elements that are noted
pub record AreAlike (held octets : List ℕ) (n : Notes) : Type 0 where
  pub size : length octets ≡ length held
  pub front : slice_range octets 0 n.live.contents_from ≡ slice_range held 0 n.live.contents_from
  pub middle : slice_range octets n.live.contents_to n.sq_num.contents_from ≡ slice_range held n.live.contents_to n.sq_num.contents_from
  pub back : slice_range octets n.sq_num.contents_to (length octets) ≡ slice_range held n.sq_num.contents_to (length held)
