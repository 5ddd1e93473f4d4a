use Rattle.std.proofs.Common.{◌≡◌, ℕ, ◌<◌, List, length, Ok, vec_items, sym, ap, ◌∙◌, subst, arith}
use Rattle.access.specs.declared.entities.Entity.{Entity}
use Rattle.catalogue.specs.Sound.{TakesEntity, Kept}
use Rattle.catalogue.specs.Calls.{with_entities}
use Rattle.catalogue.specs.Judgements.{judged_entity}
use Rattle.catalogue.proofs.Unique.{kept_out}
use Rattle.catalogue.proofs.Judging.{judged_entity_lem}
use Rattle.catalogue.proofs.Declaring.{entities_room}
use Rattle.catalogue.proofs.Keeping.{entity_kept}
use Rattle.book.specs.Meaning.{lists_of}
use Rattle.book.proofs.books.Book.declare.Goals as goal

-- the slice that is judged holds the book's entities
takes : (es seen : List Entity) (k p o m : ℕ) (x : Entity) → Ok x ≡ judged_entity seen k p o m → seen ≡ es → TakesEntity es x
takes es seen k p o m x j e = judged_entity_lem es k p o m x (sym (j ∙ ap (λ s. judged_entity s k p o m) e))

pub push_reserved-requires : goal.push_reserved-requires
push_reserved-requires c =
    let b = c.args.self.now in
    let l = lists_of b in
    let x = c.in_ok-x.x in
    let t = takes (vec_items b.entities) c.deref.result.now c.args.numbers.kind c.args.numbers.parent c.args.numbers.owner c.args.numbers.mode x c.in_ok-x.ensures c.deref.ensures.value in
    let few : length (vec_items b.entities) < 96 = entities_room (vec_items b.entities) x (kept_out l b.kept).entities t in
    omega (arith, b.room.0, b.entities.ok.0)

pub invariant_of-self : goal.invariant_of-self
invariant_of-self c =
    let b = c.args.self.now in
    let l = lists_of b in
    let x = c.in_ok-x.x in
    let t = takes (vec_items b.entities) c.deref.result.now c.args.numbers.kind c.args.numbers.parent c.args.numbers.owner c.args.numbers.mode x c.in_ok-x.ensures c.deref.ensures.value in
    let k = entity_kept l x (kept_out l b.kept) t in
    record {
      room = (omega (arith, b.room.0, c.push_reserved.ensures.capacity), b.room.1, b.room.2, b.room.3, b.room.4);
      kept = ∣ subst (λ es. Kept (with_entities l es)) (sym c.push_reserved.ensures.items) k ∣₁;
    }
