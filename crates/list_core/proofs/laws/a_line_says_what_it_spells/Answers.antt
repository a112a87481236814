use Rattle.list_core.proofs.LineShapes.{clock-from, clock-to, frame-from, frame-to, mode-from, mode-to}
use Rattle.list_core.proofs.laws.a_line_says_what_it_spells.Goals as goal

pub returns-clause-clock : goal.returns-clause-clock
returns-clause-clock g c meant line moment = (clock-to _ meant line moment, clock-from _ meant line moment)

pub returns-clause-frame : goal.returns-clause-frame
returns-clause-frame g c meant line moment octets = (frame-to _ meant line moment octets, frame-from _ meant line moment octets)

pub returns-clause-mode : goal.returns-clause-mode
returns-clause-mode g c meant line moment on = (mode-to _ meant line moment on, mode-from _ meant line moment on)
