-- The name is that of the stop.
use Rattle.csvw_command_runs.proofs.line.push_stop.Goals as goal

pub returns-in-UnknownTable-clause-ok : goal.returns-in-UnknownTable-clause-ok
returns-in-UnknownTable-clause-ok g c = rw c.in-UnknownTable.is c.push_name-in-UnknownTable.ensures.ok

pub returns-in-UnknownTable-clause-cut : goal.returns-in-UnknownTable-clause-cut
returns-in-UnknownTable-clause-cut g c = rw c.in-UnknownTable.is c.push_name-in-UnknownTable.ensures.cut

pub returns-in-AfterEnd-clause-ok : goal.returns-in-AfterEnd-clause-ok
returns-in-AfterEnd-clause-ok g c = rw c.in-AfterEnd.is c.push_name-in-AfterEnd.ensures.ok

pub returns-in-AfterEnd-clause-cut : goal.returns-in-AfterEnd-clause-cut
returns-in-AfterEnd-clause-cut g c = rw c.in-AfterEnd.is c.push_name-in-AfterEnd.ensures.cut

pub returns-in-NotEnded-clause-ok : goal.returns-in-NotEnded-clause-ok
returns-in-NotEnded-clause-ok g c = rw c.in-NotEnded.is c.push_name-in-NotEnded.ensures.ok

pub returns-in-NotEnded-clause-cut : goal.returns-in-NotEnded-clause-cut
returns-in-NotEnded-clause-cut g c = rw c.in-NotEnded.is c.push_name-in-NotEnded.ensures.cut

pub returns-in-Failed-clause-ok : goal.returns-in-Failed-clause-ok
returns-in-Failed-clause-ok g c = rw c.in-Failed.is c.push_name-in-Failed.ensures.ok

pub returns-in-Failed-clause-cut : goal.returns-in-Failed-clause-cut
returns-in-Failed-clause-cut g c = rw c.in-Failed.is c.push_name-in-Failed.ensures.cut

pub returns-in-TableCount-clause-ok : goal.returns-in-TableCount-clause-ok
returns-in-TableCount-clause-ok g c = rw c.in-TableCount.is c.push_name-in-TableCount.ensures.ok

pub returns-in-TableCount-clause-cut : goal.returns-in-TableCount-clause-cut
returns-in-TableCount-clause-cut g c = rw c.in-TableCount.is c.push_name-in-TableCount.ensures.cut
