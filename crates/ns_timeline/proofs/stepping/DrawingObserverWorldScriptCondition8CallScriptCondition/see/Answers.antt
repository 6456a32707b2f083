use Rattle.ns_timeline.proofs.stepping.DrawingObserverWorldScriptCondition8CallScriptCondition.see.Goals as goal

pub returns-in-Some-clause-ok : goal.returns-in-Some-clause-ok
returns-in-Some-clause-ok g c = rw c.in-Some.is c.draw.ensures
