use Rattle.std.proofs.Common.{refl}
use Rattle.pfx_front.proofs.closing.ended.Goals as goal

pub returns-clause-passes : goal.returns-clause-passes
returns-clause-passes g c = c.if-not-is_ended.ensures.passes refl

pub returns-clause-session : goal.returns-clause-session
returns-clause-session g c = c.if-not-is_ended.ensures.session refl

pub returns-clause-told : goal.returns-clause-told
returns-clause-told g c = c.if-not-is_ended.ensures.told refl

pub returns-clause-store : goal.returns-clause-store
returns-clause-store g c = c.if-not-is_ended.ensures.store refl

pub returns-clause-images : goal.returns-clause-images
returns-clause-images g c = c.if-not-is_ended.ensures.images refl

pub returns-clause-readers : goal.returns-clause-readers
returns-clause-readers g c = c.if-not-is_ended.ensures.readers refl

pub returns-clause-whole : goal.returns-clause-whole
returns-clause-whole g c = c.if-not-is_ended.ensures.whole refl
