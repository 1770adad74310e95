use Rattle.listing.proofs.fault.CauseDisplay.fmt.Goals as goal

pub returns-in-LeavesField-clause-writes : goal.returns-in-LeavesField-clause-writes
returns-in-LeavesField-clause-writes g c p ok = rw c.in-LeavesField.is (c.write-in-LeavesField.ensures.writes p ok)
