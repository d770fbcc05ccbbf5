use Rattle.std.proofs.Common.{◌≡◌, ℕ, List, ◌∙◌, subst, length}
use Rattle.sil_cfg.specs.Flow.{numbered}
use Rattle.reach_engine.specs.inner.Reached.{AreExact, AreBad}
use Rattle.reach_engine.proofs.RowsAreExact.{closed_exact, closed_bad, whole_again}
use Rattle.reach_engine.proofs.ItemsInRange.{edge_target}
use Rattle.reach_engine.proofs.rows.reach_rows.Goals as goal

pub returns-clause-rows : goal.returns-clause-rows
returns-clause-rows g c =
    let P : List ℕ → Type 0 =
    λ rows. AreExact (numbered c.args.g.now) (g.F.Family.step_of c.args.family.now) (g.F.Family.state_count c.args.family.now) (g.F.Family.subject_count c.args.family.now) c.args.width rows in
    let long : length c.fill.new.rows ≡ c.in_ok-rows.rows.len = c.fill.auto.rows ∙ c.as_mut_slice.ensures.len in
    subst P (whole_again c.in_ok-rows.rows.len c.fill.new.rows _ long)
    (closed_exact (numbered c.args.g.now) (g.F.Family.step_of c.args.family.now) (g.F.Family.state_count c.args.family.now) (g.F.Family.subject_count c.args.family.now) c.args.width c.fill.new.rows
    c.fill.new.bad c.blocks-2.ensures.sound.some_block (λ e is. edge_target c.args.g.now c.blocks-2.ensures.sound e is) c.requires.states c.requires.fits c.in_ok-fill.ensures)

pub returns-clause-bad : goal.returns-clause-bad
returns-clause-bad g c =
    let P : List ℕ → Type 0 = λ bad. AreBad (numbered c.args.g.now) (g.F.Family.step_of c.args.family.now) (g.F.Family.subject_count c.args.family.now) c.args.width bad in
    let long : length c.fill.new.bad ≡ c.in_ok-bad.bad.len = c.fill.auto.bad ∙ c.as_mut_slice-2.ensures.len in
    subst P (whole_again c.in_ok-bad.bad.len c.fill.new.bad _ long)
    (closed_bad (numbered c.args.g.now) (g.F.Family.step_of c.args.family.now) (g.F.Family.state_count c.args.family.now) (g.F.Family.subject_count c.args.family.now) c.args.width c.fill.new.rows
    c.fill.new.bad c.blocks-2.ensures.sound.some_block (λ e is. edge_target c.args.g.now c.blocks-2.ensures.sound e is) c.requires.states c.requires.fits c.in_ok-fill.ensures)
