-- The other value of a fault of 608 is the one that crosses with its subject.
use Rattle.std.proofs.Common.{◌≡◌, ℕ, sym, ap, ◌∙◌, arith, true, Option, Some, None, Result, Ok, Err}
use Rattle.std.specs.Prelude.{◌==◌, IfOk, List, cond}
use Rattle.std.proofs.lemmas.Bool.Decides.{nat_tests}
use Rattle.sil_ast.specs.declared.inst.Inst.{Inst}
use Rattle.sil_ast.specs.declared.place.ValueId.{ValueId}
use Rattle.sil_rules.specs.Rules.{number_of}
use Rattle.sil_rules.specs.declared.rule.Rule.{Rule}
use Rattle.sil_rules.specs.declared.rule.Rule.TheVariants as rule
use Rattle.memory_rules_accesses.specs.declared.source.Source.{Source}
use Rattle.memory_rules.specs.inner.StaticFaults.{is_overlap, other_by}
use Rattle.memory_rules.specs.Statics.{crossed_with}

same_number : (a b : ℕ) → a ≡ b → (a == b) ≡ true
same_number a b e = grind (arith, nat_tests)

pub has_number : (r : Rule) (a b : ℕ) → a ≡ number_of r → b ≡ number_of rule.InoutOverlap → a ≡ b → is_overlap r ≡ true
has_number r a b one other e = same_number (number_of r) (number_of rule.InoutOverlap) (sym one ∙ e ∙ other)

pub other_told : {E : Type 0} (sources : List Source) (r : Rule) (i j : Inst) (v : ValueId) (o : Result (Option ValueId) E) → is_overlap r ≡ true → Some j ≡ Some i →
    IfOk o (λ x. x ≡ crossed_with sources j v) → IfOk o (λ x. x ≡ other_by sources r i v)
other_told sources r i j v (Ok x) over same e =
    let is : j ≡ i = cc in
    e ∙ ap (λ k. crossed_with sources k v) is ∙ ap (λ b. cond b (crossed_with sources i v) None) (sym over)
other_told sources r i j v (Err y) over same e = tt
