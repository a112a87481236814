use Rattle.std.proofs.Common.{sym, ◌∙◌}
use Rattle.repeat_core.proofs.WrittenWhole.{written_whole}
use Rattle.repeat_core.proofs.again.Again.is_written.Goals as goal
use Rattle.repeat_core.proofs.again.Again.is_written.Goals.{then-self, else-self}

pub returns-then-is_number_short : goal.returns-then-is_number_short
returns-then-is_number_short g c = λ told.
    let a = c.args.self.now in
    let r = c.requires in
    elim c.if-self.branch [
      | then-self w ↦ written_whole c.args.octets.now a.notes.now a.live a.sq_num r.shows.placed (w.is_number_short.ensures (sym w.value-is ∙ c.if-is_number_short.true) a.live r.says_live)
          (c.is_number_short-then-is_number_short.ensures told a.sq_num r.says_sq_num) (r.around w.if-self.true)
      | else-self w ↦ absurd (let wrong = sym w.value-is ∙ c.if-is_number_short.true in cc)
    ]
