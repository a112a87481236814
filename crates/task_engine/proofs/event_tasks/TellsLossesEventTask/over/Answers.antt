use Rattle.task_engine.proofs.event_tasks.TellsLossesEventTask.over.Goals as goal

pub returns-clause-text : goal.returns-clause-text
returns-clause-text g c =
    rw (c.of_input.ensures.ending, c.of_input.ensures.reader)
    (record { fault = c.losses_over.result.fault; by = c.of_input.ensures.fault; is_left = record { by = tt; is = tt; is_left = c.losses_over.ensures.text } })
