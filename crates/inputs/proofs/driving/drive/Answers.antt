-- `drive` meets its contract: the variables from the j-th on are driven, and the others as they were.
use Rattle.std.proofs.Common.{ℕ, suc, ◌-◌, ◌≡◌, ◌<◌, length, subst, arith}
use Rattle.inputs.specs.Driving.{DrivenFrom, drive_none, drive_next, drive_done}
use Rattle.inputs.proofs.driving.drive.Goals as goal

pub loop-j-init : goal.loop-j-init
loop-j-init c = drive_none c.args.bytes.now c.args.variables.now c.args.index

pub bounds-bytes-variables : goal.bounds-bytes-variables
bounds-bytes-variables c =
    let inside : c.loop-j.j - 1 < length c.args.variables.now = omega arith in
    omega (arith, c.requires.all_below (c.loop-j.j - 1) inside)

pub loop-j-preserved : goal.loop-j-preserved
loop-j-preserved c =
    let inside : c.loop-j.j - 1 < length c.args.variables.now = omega arith in
    let next : c.loop-j.j ≡ suc (c.loop-j.j - 1) = omega arith in
    drive_next c.args.bytes.now c.args.variables.now c.args.index (c.loop-j.j - 1) c.loop-j.bytes c.bit_byte.result inside (omega (arith, c.requires.all_below (c.loop-j.j - 1) inside)) c.bit_byte.ensures
    (subst (λ (k : ℕ). DrivenFrom c.args.bytes.now c.args.variables.now c.args.index k c.loop-j.bytes) next c.loop-j.invariant)

pub returns : goal.returns
returns c =
    let none : c.loop-j.j ≡ 0 = omega arith in
    drive_done c.args.bytes.now c.args.variables.now c.args.index c.loop-j.bytes c.requires.others_undriven
    (subst (λ (k : ℕ). DrivenFrom c.args.bytes.now c.args.variables.now c.args.index k c.loop-j.bytes) none c.loop-j.invariant)
