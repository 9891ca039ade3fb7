use Rattle.std.proofs.Common.{cond, [], ◌∷◌, ◌++◌, refl, sym, ap, subst, ◌∙◌, arith}
use Rattle.std.specs.Prelude.{bytes_eq, option_map}
use Rattle.byte_fields.specs.Bytes.{last_of}
use Rattle.byte_fields.proofs.Lists.{option_or-None}
use Rattle.changeset_model.specs.Changeset.{id_of}
use Rattle.changeset_store.specs.Shared.{values}
use Rattle.changeset_store.specs.Grown.{adding, CanAdd}
use Rattle.history_model.specs.History.{Land, content_len}
use Rattle.history_model.specs.Bookmark.{head}
use Rattle.reply_model.specs.After.{entry_by}
use Rattle.repo_machine.specs.Held.{repository}
use Rattle.repo_machine.specs.Made.{landing_made}
use Rattle.repo_machine.specs.Records.{history_of}
use Rattle.repo_machine.proofs.Growing.{head-land, heads_set, content_len-push}
use Rattle.repo_machine.proofs.Entered.{enterable_as, legal_grown, indexes_grown, places_stay}
use Rattle.repo_machine.proofs.Kept.{kept_grown}
use Rattle.repo_machine.proofs.KnownLanding.{known-land}
use Rattle.repo_machine.proofs.LandingEntry.{history_landed, within_landed, entered_same}
use Rattle.repo_machine.proofs.HeldPolicy.{held_stays}
use Rattle.repo_machine.proofs.Tables.{joined_stays}
use Rattle.repo_machine.proofs.Touching.{covers_adding}
use Rattle.repo_machine.specs.Touches.{Covers}
use Rattle.repo_machine.proofs.machine.Machine.enter_landing.Goals as goal

pub add_all-requires-clause-can : goal.add_all-requires-clause-can
add_all-requires-clause-can c =
    subst (λ ks. CanAdd ks (values c.args.landing.new.items)) (sym c.self.invariant.1.known_are) (enterable_as (repository c.args.self.now) (Land (landing_made c.args.landing)) (ap repository c.self.view_is) c.requires.can).new

pub returns-clause-history : goal.returns-clause-history
returns-clause-history c = history_landed c.self.inside.changesets.known c.self.inside.entries.items c.self.invariant.0 _ refl c.args.who _ (values c.args.landing.new.items) _ _ refl c.add_all.ensures.known c.add_all.ensures.numbers _ c.push_reserved-2.ensures.items ∙ entered_same (history_of c.self.inside.changesets.known c.self.inside.entries.items) c.args.who (values c.args.landing.new.items) c.deref_mut.result.now c.args.landing.kept.value c.deref_mut.ensures.value ∙ ap (λ v. v.history ++ entry_by c.args.who (Land (landing_made c.args.landing)) ∷ []) c.self.view_is

pub returns-clause-legal : goal.returns-clause-legal
returns-clause-legal c =
    legal_grown c.self.invariant.1 c.args.who (Land (landing_made c.args.landing)) (enterable_as (repository c.args.self.now) (Land (landing_made c.args.landing)) (ap repository c.self.view_is) c.requires.can) refl _ (history_landed c.self.inside.changesets.known c.self.inside.entries.items c.self.invariant.0 _ refl c.args.who _ (values c.args.landing.new.items) _ _ refl c.add_all.ensures.known c.add_all.ensures.numbers _ c.push_reserved-2.ensures.items ∙ entered_same (history_of c.self.inside.changesets.known c.self.inside.entries.items) c.args.who (values c.args.landing.new.items) c.deref_mut.result.now c.args.landing.kept.value c.deref_mut.ensures.value)

pub invariant_of-self : goal.invariant_of-self
invariant_of-self c =
    let h = history_of c.self.inside.changesets.known c.self.inside.entries.items in
    let k = c.self.invariant.1 in
    let can = enterable_as (repository c.args.self.now) (Land (landing_made c.args.landing)) (ap repository c.self.view_is) c.requires.can in
    let grows = history_landed c.self.inside.changesets.known c.self.inside.entries.items c.self.invariant.0 _ refl c.args.who _ (values c.args.landing.new.items) _ _ refl c.add_all.ensures.known c.add_all.ensures.numbers _ c.push_reserved-2.ensures.items ∙ entered_same (history_of c.self.inside.changesets.known c.self.inside.entries.items) c.args.who (values c.args.landing.new.items) c.deref_mut.result.now c.args.landing.kept.value c.deref_mut.ensures.value in (
      within_landed c.self.inside.changesets.known c.self.inside.entries.items c.self.invariant.0 _ refl c.args.who _ (values c.args.landing.new.items) _ _ refl c.add_all.ensures.known c.add_all.ensures.numbers _ c.push_reserved-2.ensures.items c.add_all.ensures.within,
      indexes_grown k c.args.who (Land (landing_made c.args.landing)) can refl _ grows _ _ _ _
          (c.add_all.ensures.known ∙ ap (λ ks. adding ks (values c.args.landing.new.items)) k.known_are ∙ sym (known-land h c.args.who (landing_made c.args.landing)))
          (λ name. heads_set _ _ h c.deref.result.now.name c.last_id.result k.heads_are c.set_head.ensures.0 name
          ∙ (λ i. cond (bytes_eq name (c.deref.ensures i).name) ((c.last_id.ensures ∙ ap (λ cs. option_map id_of (last_of (values cs))) c.as_slice.ensures.value) i) (head h name))
          ∙ sym (head-land h c.args.who (landing_made c.args.landing) name))
          (λ y. k.lengths_are y ∙ sym (content_len-push h c.args.who (Land (landing_made c.args.landing)) y ∙ option_or-None (content_len h y)))
          (omega (arith, c.requires.length)),
      places_stay h (entry_by c.args.who (Land (landing_made c.args.landing))) _ c.self.invariant.2 _ grows,
      kept_grown c.self.inside.entries.items _ c.self.invariant.3 _ _ c.push_reserved-2.ensures.items refl _ (omega (arith, c.len.ensures)) _ c.push_reserved.ensures.items,
      held_stays h c.args.who (Land (landing_made c.args.landing)) refl c.self.inside.held c.self.invariant.4 _ grows,
      joined_stays h (entry_by c.args.who (Land (landing_made c.args.landing))) (λ x. refl) (λ x. refl) _ c.self.invariant.5 _ grows,
      subst (Covers c.self.inside.touches) (sym c.add_all.ensures.known) (covers_adding c.self.inside.touches c.self.inside.changesets.known (values c.args.landing.new.items) c.self.invariant.6),
    )
