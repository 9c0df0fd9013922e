-- What is held stays within.
use Rattle.rr_eval.proofs.engine.Engine.send_built_in.Goals as goal

pub returns-in-None-None-clause-within : goal.returns-in-None-None-clause-within
returns-in-None-None-clause-within c k h last = c.ask_method.ensures.within k h

pub returns-in-None-Some-clause-within : goal.returns-in-None-Some-clause-within
returns-in-None-Some-clause-within c k h last = c.send_with_block.ensures.within k h

pub returns-in_ok-begin_new-in-Some-default-clause-within : goal.returns-in_ok-begin_new-in-Some-default-clause-within
returns-in_ok-begin_new-in-Some-default-clause-within c k h last = c.begin_new.ensures.within k h tt last

pub returns-in_err-begin_new-in-Some-default-clause-within : goal.returns-in_err-begin_new-in-Some-default-clause-within
returns-in_err-begin_new-in-Some-default-clause-within c k h last = c.begin_new.ensures.within k h tt last
