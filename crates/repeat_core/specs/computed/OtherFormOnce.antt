-- What is kept of a frame of another written form suits a frame in one way only.
use Rattle.frame_core.specs.declared.frame.Frame.{Frame}
use Rattle.repeat_core.specs.OtherForm.{HasOtherForm}
use Rattle.repeat_core.specs.declared.other_form.OtherForm.{OtherForm}

pub other_form_once : {A : Type 0} (k : OtherForm) (f : Frame A) → IsProp (HasOtherForm k f)
other_form_once k f = hlevel
