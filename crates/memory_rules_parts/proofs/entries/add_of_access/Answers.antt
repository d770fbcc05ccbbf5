use Rattle.std.proofs.Common.{◌∙◌, sym, subst}
use Rattle.std.specs.Prelude.{IfSome, Option}
use Rattle.std.specs.declared.alloc.Global.{Global}
use Rattle.std.specs.declared.vec.Vec.{Vec}
use Rattle.std.specs.Prelude.{ℕ}
use Rattle.ownership_kinds_chains.specs.OwnershipMarks.Known.{facts_of}
use Rattle.memory_rules_parts.specs.inner.Index.{IsIndexOf}
use Rattle.memory_rules_parts.proofs.Unconcerned.{nothing_added}
use Rattle.memory_rules_parts.proofs.entries.add_of_access.Goals as goal

pub add_by_index-requires : goal.add_by_index-requires
add_by_index-requires c =
    subst (IsIndexOf c.args.batch.now.m.now c.args.batch.now.parts.now) (sym c.as_slice.ensures.value)
    (subst (λ (v : Option (Vec (Vec ℕ Global) Global)). IfSome v (λ rows. IsIndexOf c.args.batch.now.m.now c.args.batch.now.parts.now rows.items)) c.in-Some.is c.requires.index_is)

pub returns-then-not-may_mean : goal.returns-then-not-may_mean
returns-then-not-may_mean c =
    nothing_added c.args.batch.now.m.now (facts_of c.args.batch.now.k.now) c.args.batch.now.concerned.now c.args.batch.now.parts.now c.args.access c.args.entries.now.items c.requires.concerned_are
    (sym c.may_mean.ensures ∙ c.if-not-may_mean.true)
