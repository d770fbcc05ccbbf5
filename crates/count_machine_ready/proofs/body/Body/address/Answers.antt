use Rattle.std.proofs.Common.{◌∙◌}
use Rattle.count_machine_layouts.proofs.FrameLayouts.Spots.{address_told}
use Rattle.count_machine_ready.specs.inner.Bodies.{declared}
use Rattle.count_machine_ready.proofs.body.Body.address.Goals as goal

pub returns : goal.returns
returns c = c.address.ensures ∙ address_told (declared c.args.self.now) c.args.self.now.function.now c.args.self.now.layout.now c.requires.layout c.args.value
