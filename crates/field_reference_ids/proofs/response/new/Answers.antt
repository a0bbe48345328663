-- Each return is the case of `response_new` whose tests led there.
use borrow.Author.Tests.{lt-ltb, le-ltb, eq-eqb, ne_eqb}
use Rattle.field_reference_ids.specs.MeantResponse.{response_new}
use Rattle.field_reference_ids.proofs.response.new.Goals as goal

pub returns-then-len-ne0 : goal.returns-then-len-ne0
unfolding response_new
returns-then-len-ne0 c = rw (ne_eqb _ _ c.if-len-ne0.true)

pub returns-then-len-gt512 : goal.returns-then-len-gt512
unfolding response_new
returns-then-len-gt512 c = rw (eq-eqb _ _ c.if-len-ne0.false, lt-ltb _ _ c.if-len-gt512.true)

pub returns : goal.returns
unfolding response_new
returns c = rw (eq-eqb _ _ c.if-len-ne0.false, le-ltb _ _ c.if-len-gt512.false)
