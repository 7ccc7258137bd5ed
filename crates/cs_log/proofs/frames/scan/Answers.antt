use Rattle.cs_log.proofs.Readings.{all_read, frames_are_one, read_more}
use Rattle.cs_log.proofs.frames.scan.Goals as goal

-- one more frame is read
pub loop-payload-preserved : goal.loop-payload-preserved
loop-payload-preserved c =
    let more = read_more _ _ _ _ c.in-Some.payload.now c.in-Some.behind.now c.loop-payload.invariant c.in-Some.ensures.fits
    c.in-Some.ensures.frame in
    rw (c.in_ok-push.ensures.items, c.in_ok-from_slice.ensures) more

-- there is one reading
pub returns-clause-only : goal.returns-clause-only
returns-clause-only c = λ others are.
    frames_are_one _ _ others (all_read _ _ _ _ c.loop-payload.invariant c.in_default.ensures.torn) are
