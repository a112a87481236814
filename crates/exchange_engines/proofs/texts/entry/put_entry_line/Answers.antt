use Rattle.exchange_engines.proofs.texts.entry.put_entry_line.Goals as goal

pub returns-in-NotSubscribed : goal.returns-in-NotSubscribed
returns-in-NotSubscribed g c = rw c.in-NotSubscribed.is c.put_alone_line.ensures

pub returns-in-Refreshed : goal.returns-in-Refreshed
returns-in-Refreshed g c = rw c.in-Refreshed.is c.put_pair_line.ensures
