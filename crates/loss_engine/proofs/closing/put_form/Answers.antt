use Rattle.loss_engine.proofs.closing.put_form.Goals as goal

pub returns-in-Frames : goal.returns-in-Frames
returns-in-Frames g c = rw c.in-Frames.is c.put_sender_total.ensures
