-- The items of a module, one kind behind the other, each item behind an empty line.
use Rattle.std.proofs.Common.{◌≡◌, ℕ, List, [], ◌∷◌, ◌++◌, map, refl, ap₂}
use Rattle.std.specs.List.{AllZip}
use Rattle.std.proofs.lemmas.List.{append_assoc}
use Rattle.sil_printer.specs.Words.{each_behind, line_feed}
use Rattle.sil_grammar_tables.specs.declared.grammar.Nonterminal.TheVariants as n
use Rattle.sil_grammar_tables.specs.declared.grammar.Production.TheVariants as p
use Rattle.sil_grammar_tables.specs.Grammar.{body, written}
use Rattle.sil_grammar_tree.specs.declared.written_tree.written_module.WrittenItem.{WrittenItem}
use Rattle.sil_grammar_values.specs.inner.Meaning.{meaning}
use Rattle.sil_grammar_values.specs.Opened.{PartValue}
use Rattle.sil_grammar_values.specs.inner.PartFaults.{part_fault}
use Rattle.sil_grammar_values.specs.Values.{item_of, items_of}
use Rattle.numbered_form.specs.Lists.{Each}
use Rattle.sil_printer_laws.proofs.Pieces.{Stands, Reads as reads}
use Rattle.sil_printer_laws.proofs.ProductionReading.{stands_by, part_here}

-- the part stands for the item
pub record IsItem {A W : Type 0} (wrap : W → WrittenItem) (R : A → W → Type 0) (a : A) (x : PartValue) : Type 0 where
  pub item : W
  pub is_item : item_of x ≡ wrap item
  pub stands : R a item

-- the part stands for items of one kind, and the rest behind them
pub record AreItems {A W : Type 0} (wrap : W → WrittenItem) (R : A → W → Type 0) (items : List A) (rest : List WrittenItem) (x : PartValue) : Type 0 where
  pub ws : List W
  pub are_items : items_of x ≡ map wrap ws ++ rest
  pub stand : AllZip R items ws

pub no_items : (text after : List ℕ) → Stands text n.Items (λ x. items_of x ≡ []) after after
unfolding body written meaning part_fault items_of
no_items text after = stands_by p.ItemsEnd (λ x. items_of x ≡ []) reads.nothing refl refl

pub items_in_front : {A W : Type 0} {P : PartValue → Type 0} (text : List ℕ) (wrap : W → WrittenItem) (R : A → W → Type 0) (text_of : A → List ℕ) (Good : A → Type 0)
    → ((a : A) (after : List ℕ) → Good a → Stands text n.Item (IsItem wrap R a) (text_of a ++ after) after)
    → (items : List A) → Each Good items → (left after : List ℕ) (last : Stands text n.Items P left after)
    → Stands text n.Items (AreItems wrap R items (items_of last.value)) (each_behind line_feed text_of items ++ left) after
unfolding body written meaning part_fault items_of
items_in_front text wrap R text_of Good each [] good left after last = record { value = last.value; stands = record { ws = []; are_items = refl; stand = tt }; reads = last.reads }
items_in_front text wrap R text_of Good each (a ∷ items) good left after last =
    let others = items_in_front text wrap R text_of Good each items good.1 left after last in
    let first = each a (each_behind line_feed text_of items ++ left) good.0 in
    rw (append_assoc (text_of a) (each_behind line_feed text_of items) left)
    (stands_by p.ItemsMore (AreItems wrap R (a ∷ items) (items_of last.value)) (reads.blank 10 refl (part_here first (part_here others reads.nothing))) refl
    (record {
      ws = first.stands.item ∷ others.stands.ws;
      are_items = ap₂ (λ item items. item ∷ items) first.stands.is_item others.stands.are_items;
      stand = (first.stands.stands, others.stands.stand);
    }))
