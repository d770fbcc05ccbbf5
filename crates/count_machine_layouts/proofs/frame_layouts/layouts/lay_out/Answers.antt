use Rattle.std.proofs.Common.{◌≤◌, ◌<◌, ap, arith, get_or, None}
use Rattle.sil_rules.specs.declared.limits.TheConstants.{LEAVES, VALUES}
use Rattle.type_check_values.specs.TypingValues.inner.Told.{types_told}
use Rattle.count_machine_layouts.specs.FrameLayouts.inner.Layouts.{leaves_kept}
use Rattle.count_machine_layouts.specs.declared.frame_layouts.layout.Layout.{Layout}
use Rattle.count_machine_layouts.proofs.FrameLayouts.Laying.{few_addresses, few_leaves, laid_further}
use Rattle.count_machine_layouts.proofs.frame_layouts.layouts.lay_out.Goals as goal

few : (c : goal.After-kept_of) → leaves_kept c.kept_of.result ≤ LEAVES
few c =
    let g = get_or c.args.functions.now c.loop-number.number None in
    let e = ap leaves_kept c.kept_of.ensures in
    let le = few_leaves c.args.table.now (types_told c.args.types.now) c.loop-number.number g c.requires.sizes in omega arith

pub push-requires-clause-leaves : goal.push-requires-clause-leaves
push-requires-clause-leaves c =
    let own = few c in
    let so_far = c.loop-number.invariant.leaves in
    let below : c.loop-number.number < VALUES = omega arith in
    omega arith

pub loop-number-preserved : goal.loop-number-preserved
loop-number-preserved c =
    let next = c.in_ok-push.ensures in
    let g = get_or c.args.functions.now c.loop-number.number None in
    let here = c.kept_of.ensures in
    let leaves = ap (λ (l : Layout). l.leaves) next in
    let addresses = ap (λ (l : Layout). l.addresses) next in
    let own : leaves_kept c.kept_of.result ≤ LEAVES =
    (let e = ap leaves_kept here in
    let le = few_leaves c.args.table.now (types_told c.args.types.now) c.loop-number.number g c.requires.sizes in omega arith) in
    let one = few_addresses c.kept_of.result in
    record {
      laid = laid_further c.args.table.now (types_told c.args.types.now) c.args.functions.now c.loop-number.number
          c.loop-number.layout c.push.new.self c.kept_of.result
          c.loop-number.invariant.laid here next;
      leaves = omega arith;
      addresses = omega arith;
    }
