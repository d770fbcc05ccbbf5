use Rattle.std.proofs.Common.{◌≡◌, ℕ, ◌+◌, ◌<◌, List, refl, ap, ◌∙◌, sym, subst, Option, Some, None}
use Rattle.std.specs.Prelude.{IfSome, IsSome}
use Rattle.std.proofs.lemmas.Option.{slice_get_within}
use Rattle.sil_rules.specs.Rules.{index_of}
use Rattle.sil_cfg.specs.declared.item.Item.{Item}
use Rattle.sil_cfg.specs.Flow.{numbered}
use Rattle.sil_cfg.specs.Layout.{Layout, item_at, item_count}
use Rattle.reach_engine.specs.declared.scan.Step.{Step}
use Rattle.reach_engine.specs.declared.together.Broken.{Broken}
use Rattle.reach_engine.specs.inner.Reach.{ReachesFirst}
use Rattle.reach_engine.specs.inner.Search.{IsClean, IsLeastCode, IsShortest}
use Rattle.reach_engine_marks.specs.PathChecks.inner.Automata.{subject_step}
use Rattle.reach_engine_marks.specs.declared.path_checks.entry.Entry.{Entry}
use Rattle.reach_engine_marks.specs.PathChecks.inner.Shared.{entries_among}
use Rattle.reach_engine_marks.proofs.PathChecks.RulesShown.{reached_rule}
use Rattle.reach_engine_marks.proofs.path_checks.first.first_of_chunk.Goals as goal

there : (o : Option Broken) (b : Broken) (P : Broken → Type 0) → o ≡ Some b → IfSome o P → P b
there o b P e h = subst (λ v. IfSome v P) e h

within : (o : Option Item) (g : Layout) (i : ℕ) → item_at g i ≡ o → IsSome o → i < item_count g
within None g i e h = cc h
within (Some x) g i e h = slice_get_within g.kinds i x e

pub at-requires : goal.at-requires
at-requires c =
    let entries : ℕ → List Entry = entries_among c.args.entries.now c.args.shared.now c.args.sharing.now in
    let P : Broken → Type 0 = λ b. ReachesFirst (numbered c.args.g.now) (subject_step entries (c.args.first + b.subject)) b.walk b.code b.item in
    let h : P c.in-Some.broken = there c.in_ok-first_broken.field-0 c.in-Some.broken P c.in-Some.is c.in_ok-first_broken.ensures.breaks in
    (reached_rule (numbered c.args.g.now) entries (c.args.first + c.in-Some.broken.subject) c.in-Some.broken.walk c.in-Some.broken.code c.in-Some.broken.item h).below

pub point-requires : goal.point-requires
point-requires c =
    let h : IsSome (item_at c.args.g.now c.in-Some.broken.item) =
    there c.in_ok-first_broken.field-0 c.in-Some.broken (λ b. IsSome (item_at c.args.g.now b.item)) c.in-Some.is c.in_ok-first_broken.ensures.item in
    within (item_at c.args.g.now c.in-Some.broken.item) c.args.g.now c.in-Some.broken.item refl h

pub item-requires : goal.item-requires
item-requires c =
    let h : IsSome (item_at c.args.g.now c.in-Some.broken.item) =
    there c.in_ok-first_broken.field-0 c.in-Some.broken (λ b. IsSome (item_at c.args.g.now b.item)) c.in-Some.is c.in_ok-first_broken.ensures.item in
    within (item_at c.args.g.now c.in-Some.broken.item) c.args.g.now c.in-Some.broken.item refl h

pub returns-in-Some : goal.returns-in-Some
returns-in-Some c =
    let g : Layout = c.args.g.now in
    let entries : ℕ → List Entry = entries_among c.args.entries.now c.args.shared.now c.args.sharing.now in
    let b : Broken = c.in-Some.broken in
    let step : ℕ → ℕ → ℕ → Step = λ u. subject_step entries (c.args.first + u) in
    let is : c.in_ok-first_broken.field-0 ≡ Some b = c.in-Some.is in
    let reaches : ReachesFirst (numbered g) (step b.subject) b.walk b.code b.item =
    there c.in_ok-first_broken.field-0 b (λ x. ReachesFirst (numbered g) (step x.subject) x.walk x.code x.item) is c.in_ok-first_broken.ensures.breaks in
    let found : b.code ≡ index_of c.at.result =
    sym (ap index_of c.at.ensures ∙ (reached_rule (numbered g) entries (c.args.first + b.subject) b.walk b.code b.item reaches).found) in
    record {
      offset = b.subject;
      subject = refl;
      within = there c.in_ok-first_broken.field-0 b (λ x. x.subject < c.args.count) is c.in_ok-first_broken.ensures.within;
      clean = there c.in_ok-first_broken.field-0 b (λ x. (u : ℕ) → u < x.subject → IsClean (numbered g) (step u)) is c.in_ok-first_broken.ensures.first;
      item = b.item;
      there = c.item.ensures;
      point = c.point.ensures c.item.result c.item.ensures;
      reaches = subst (λ code. ReachesFirst (numbered g) (step b.subject) b.walk code b.item) found reaches;
      least = subst (IsLeastCode (numbered g) (step b.subject)) found
          (there c.in_ok-first_broken.field-0 b (λ x. IsLeastCode (numbered g) (step x.subject) x.code) is c.in_ok-first_broken.ensures.least);
      shortest = subst (λ code. IsShortest (numbered g) (step b.subject) code b.walk) found
          (there c.in_ok-first_broken.field-0 b (λ x. IsShortest (numbered g) (step x.subject) x.code x.walk) is c.in_ok-first_broken.ensures.shortest);
    }
