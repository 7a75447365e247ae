-- `post_known` meets its contract: the ways out of it are those of `Posted`.
use Rattle.book.proofs.Audited.{vessels_fit}
use Rattle.motions.proofs.Posted.{post_refused, post_full, post_countable, post_made}
use Rattle.motions.proofs.post_known.Goals as goal

pub check-requires : goal.check-requires
check-requires g c = vessels_fit _ _ c.requires.known

pub returns-in_err-check-clause-posts : goal.returns-in_err-check-clause-posts
returns-in_err-check-clause-posts g c =
    post_refused _ _ _ c.requires.known _ c.in_err-check.ensures _ c.from_residual.ensures.1

pub motion-m-requires-clause-few_vessels : goal.motion-m-requires-clause-few_vessels
motion-m-requires-clause-few_vessels g c = vessels_fit _ _ c.requires.known

pub returns-in_err-moved-clause-posts : goal.returns-in_err-moved-clause-posts
returns-in_err-moved-clause-posts g c =
    post_full _ _ _ c.requires.known c.in_ok-check.ensures _ c.motion-m.ensures.motion c.motion-m.ensures.carriable
    _ _ c.carry.ensures.moves _ c.in_err-moved.ensures.value _ c.from_residual-in_err-moved.ensures.1

pub advance-requires : goal.advance-requires
advance-requires g c =
    post_countable _ _ _ c.requires.known c.in_ok-check.ensures _ c.motion-m.ensures.motion c.motion-m.ensures.carriable
    _ _ c.carry.ensures.moves _ c.in_ok-moved.ensures.ok_part

pub returns-clause-posts : goal.returns-clause-posts
returns-clause-posts g c =
    post_made _ _ _ c.requires.known c.in_ok-check.ensures _ c.motion-m.ensures.motion c.motion-m.ensures.carriable
    _ _ c.carry.ensures.moves _ c.in_ok-moved.ensures.ok_part _ c.advance.ensures

pub returns-in_err-check-clause-leaves : goal.returns-in_err-check-clause-leaves
returns-in_err-check-clause-leaves g c = g.met.K.Keeping.untouched _
