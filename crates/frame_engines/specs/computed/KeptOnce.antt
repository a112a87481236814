-- What is kept of a line suits a frame in one way only.
use Rattle.std.specs.Prelude.{ℕ, Bool, true, false, List}
use base.Stored.{Coded-set, coded_bool, coded_list, coded_ℕ}
use Rattle.frame_core.specs.declared.frame.Frame.{Frame}
use Rattle.frame_engines.specs.computed.KeptLine.{KeepsLine}

pub kept_once : {A : Type 0} (in_object whole : Bool) (text : List ℕ) (first second : ℕ) (f : Frame A) → IsProp (KeepsLine in_object whole text first second f)
kept_once false whole text first second f = hlevel (coded_ℕ, coded_list, Coded-set)
kept_once true false text first second f = hlevel (coded_ℕ, coded_list, Coded-set)
kept_once true true text first second f = hlevel (coded_bool, coded_ℕ, coded_list, Coded-set)
