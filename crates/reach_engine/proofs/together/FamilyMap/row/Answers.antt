use Rattle.std.proofs.Common.{◌≡◌, ◌+◌, ◌-◌, ◌*◌, ◌<◌, List, ℕ, take, drop, ap, subst, ◌∙◌, arith}
use Rattle.reach_engine.specs.inner.Bits.{bit_in}
use Rattle.reach_engine.specs.inner.Columns.{cell}
use Rattle.reach_engine.specs.inner.Grid.{Grid}
use Rattle.reach_engine.proofs.RowsMoved.{bit_in_part}
use Rattle.reach_engine.proofs.together.FamilyMap.row.Goals as goal

-- a row of the words
row_bits : (words : List ℕ) (width r n u : ℕ) → n ≡ width → u < 64 * width → bit_in (take n (drop (r * width) words)) u ≡ bit_in words (cell width r u)
row_bits words width r n u e lt =
    let place : 64 * (r * width) + u ≡ cell width r u = omega arith in
    bit_in_part words (r * width) n u (omega arith) ∙ ap (bit_in words) place

pub returns-clause-bits : goal.returns-clause-bits
returns-clause-bits c =
    let P : Grid → Type 0 = λ m. (u : ℕ) → u < 64 * m.width →
    bit_in (take ((c.args.b.0 * c.self.inside.states + c.args.state) * c.self.inside.width + c.self.inside.width - (c.args.b.0 * c.self.inside.states + c.args.state) * c.self.inside.width)
    (drop ((c.args.b.0 * c.self.inside.states + c.args.state) * c.self.inside.width) c.deref.result.now)) u ≡ bit_in m.words (cell m.width (c.args.b.0 * m.states + c.args.state) u) in
    subst P c.self.view_is (λ u lt.
    ap (λ ws. bit_in (take ((c.args.b.0 * c.self.inside.states + c.args.state) * c.self.inside.width + c.self.inside.width - (c.args.b.0 * c.self.inside.states + c.args.state) * c.self.inside.width)
    (drop ((c.args.b.0 * c.self.inside.states + c.args.state) * c.self.inside.width) ws)) u) c.deref.ensures.value
    ∙ row_bits c.self.inside.words.items c.self.inside.width (c.args.b.0 * c.self.inside.states + c.args.state) _ u (omega arith) lt)
