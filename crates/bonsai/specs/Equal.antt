-- When two changesets are equal, as a test.
--     file_eq f g, source_eq s t, change_eq a b, edit_eq d e, changeset_eq c d      whether they are equal, field by field
--     changeset_eq-Decides      it holds exactly where they are one;  source_eq_equiv, change_eq_equiv, edit_eq_equiv, changeset_eq_equiv      so it is an equivalence
use Rattle.std.specs.Prelude.{◌≡◌, Bool, true, false, ◌&&◌, ◌==◌, bytes_eq, Option, None, Some, unwrap_or, refl}
use Rattle.std.specs.Option.{option_eq}
use Rattle.std.specs.Ordering.{int_eq}
use Rattle.std.specs.Bool.{Decides}
use Rattle.std.specs.Cmp.{IsEquivalence}
use Rattle.std.specs.Cmp.Lexicographic.{pointwise, pointwise_decides, bytes_decides}
use Rattle.std.proofs.Common.{sym, ap, ◌∙◌}
use Rattle.std.proofs.lemmas.Bool.Decides.{same_from_decides, Decides-eqb, Decides-int_eq, Decides-like, Decides-and}
use Rattle.changeset_model.specs.Path.{Path, path_eq}
use Rattle.changeset_model.specs.Version.{Version, version_byte, version_of}
use Rattle.changeset_model.specs.Changeset.{Kind, kind_byte, File, CopySource, FileChange, Set, Delete, Changeset}
use Rattle.changeset_model.specs.Decoding.{kind_of}
use Rattle.changeset_model.specs.Codes.{kind_of-kind_byte, version_of-version_byte}

abbrev pub kind_eq : Kind → Kind → Bool
kind_eq j k = kind_byte j == kind_byte k

abbrev pub file_eq : File → File → Bool
file_eq f g = bytes_eq f.content g.content && (kind_eq f.kind g.kind && (f.size == g.size))

abbrev pub version_eq : Version → Version → Bool
version_eq v w = version_byte v == version_byte w

abbrev pub source_eq : CopySource → CopySource → Bool
source_eq s t = (s.parent == t.parent) && path_eq s.path t.path

abbrev pub change_eq : FileChange → FileChange → Bool
change_eq (Set f s) (Set g t) = file_eq f g && option_eq source_eq s t
change_eq (Set f s) Delete = false
change_eq Delete (Set g t) = false
change_eq Delete Delete = true

abbrev pub edit_eq : Path × FileChange → Path × FileChange → Bool
edit_eq d e = path_eq d.0 e.0 && change_eq d.1 e.1

abbrev pub changeset_eq : Changeset → Changeset → Bool
changeset_eq c d =
    version_eq c.version d.version && (pointwise bytes_eq c.parents d.parents && (bytes_eq c.author d.author && (int_eq c.seconds d.seconds && (int_eq c.offset d.offset && (bytes_eq c.message d.message && pointwise edit_eq c.changes d.changes)))))

kinds_decide : (j k : Kind) → Decides (kind_eq j k) (j ≡ k)
kinds_decide j k = Decides-like (kind_eq j k) (λ e. sym (kind_of-kind_byte j) ∙ ap kind_of e ∙ kind_of-kind_byte k) (λ e. ap kind_byte e) (Decides-eqb (kind_byte j) (kind_byte k))

files_decide : (f g : File) → Decides (file_eq f g) (f ≡ g)
files_decide f g =
    Decides-like (file_eq f g) (λ e. (λ i. record { content = e.0 i; kind = e.1.0 i; size = e.1.1 i })) (λ e. (ap (λ f. f.content) e, (ap (λ f. f.kind) e, ap (λ f. f.size) e)))
    (Decides-and (bytes_eq f.content g.content) (kind_eq f.kind g.kind && (f.size == g.size)) (bytes_decides f.content g.content) (Decides-and (kind_eq f.kind g.kind) (f.size == g.size) (kinds_decide f.kind g.kind) (Decides-eqb f.size g.size)))

versions_decide : (v w : Version) → Decides (version_eq v w) (v ≡ w)
versions_decide v w = Decides-like (version_eq v w) (λ e. sym (version_of-version_byte v) ∙ ap version_of e ∙ version_of-version_byte w) (λ e. ap version_byte e) (Decides-eqb (version_byte v) (version_byte w))

sources_decide : (s t : CopySource) → Decides (source_eq s t) (s ≡ t)
sources_decide s t =
    Decides-like (source_eq s t) (λ e. (λ i. record { parent = e.0 i; path = e.1 i })) (λ e. (ap (λ s. s.parent) e, ap (λ s. s.path) e))
    (Decides-and (s.parent == t.parent) (path_eq s.path t.path) (Decides-eqb s.parent t.parent) (pointwise_decides bytes_decides s.path t.path))

copied_decide : (s t : Option CopySource) → Decides (option_eq source_eq s t) (s ≡ t)
copied_decide None None = (λ e. refl, λ e. refl)
copied_decide None (Some t) = (λ (e : false ≡ true). absurd cc, λ (e : ◌≡◌ {A = Option CopySource} None (Some t)). absurd cc)
copied_decide (Some s) None = (λ (e : false ≡ true). absurd cc, λ (e : ◌≡◌ {A = Option CopySource} (Some s) None). absurd cc)
copied_decide (Some s) (Some t) = Decides-like (source_eq s t) (ap (λ s. Some s)) (λ (e : ◌≡◌ {A = Option CopySource} (Some s) (Some t)). ap (λ o. unwrap_or o s) e) (sources_decide s t)

changes_decide : (a b : FileChange) → Decides (change_eq a b) (a ≡ b)
changes_decide (Set f s) (Set g t) =
    Decides-like (file_eq f g && option_eq source_eq s t) (λ e. (λ i. Set (e.0 i) (e.1 i))) (λ (e : ◌≡◌ {A = FileChange} (Set f s) (Set g t)). (cc, cc))
    (Decides-and (file_eq f g) (option_eq source_eq s t) (files_decide f g) (copied_decide s t))
changes_decide (Set f s) Delete = (λ (e : false ≡ true). absurd cc, λ (e : ◌≡◌ {A = FileChange} (Set f s) Delete). absurd cc)
changes_decide Delete (Set g t) = (λ (e : false ≡ true). absurd cc, λ (e : ◌≡◌ {A = FileChange} Delete (Set g t)). absurd cc)
changes_decide Delete Delete = (λ e. refl, λ e. refl)

edits_decide : (d e : Path × FileChange) → Decides (edit_eq d e) (d ≡ e)
edits_decide d e =
    Decides-like (edit_eq d e) (λ h. (λ i. (h.0 i, h.1 i))) (λ h. (ap (λ (x : Path × FileChange). x.0) h, ap (λ (x : Path × FileChange). x.1) h))
    (Decides-and (path_eq d.0 e.0) (change_eq d.1 e.1) (pointwise_decides bytes_decides d.0 e.0) (changes_decide d.1 e.1))

pub changeset_eq-Decides : (c d : Changeset) → Decides (changeset_eq c d) (c ≡ d)
changeset_eq-Decides c d =
    Decides-like (changeset_eq c d)
    (λ e. (λ i. record { version = e.0 i; parents = e.1.0 i; author = e.1.1.0 i; seconds = e.1.1.1.0 i; offset = e.1.1.1.1.0 i; message = e.1.1.1.1.1.0 i; changes = e.1.1.1.1.1.1 i }))
    (λ e. (ap (λ c. c.version) e, (ap (λ c. c.parents) e, (ap (λ c. c.author) e, (ap (λ c. c.seconds) e, (ap (λ c. c.offset) e, (ap (λ c. c.message) e, ap (λ c. c.changes) e)))))))
    (Decides-and (version_eq c.version d.version) _ (versions_decide c.version d.version)
    (Decides-and (pointwise bytes_eq c.parents d.parents) _ (pointwise_decides bytes_decides c.parents d.parents)
    (Decides-and (bytes_eq c.author d.author) _ (bytes_decides c.author d.author)
    (Decides-and (int_eq c.seconds d.seconds) _ (Decides-int_eq c.seconds d.seconds)
    (Decides-and (int_eq c.offset d.offset) _ (Decides-int_eq c.offset d.offset)
    (Decides-and (bytes_eq c.message d.message) _ (bytes_decides c.message d.message) (pointwise_decides edits_decide c.changes d.changes)))))))

by_decides : {K : Type 0} (E : K → K → Bool) → ((x y : K) → Decides (E x y) (x ≡ y)) → IsEquivalence E
by_decides E decides = record {
  refl = λ x. (decides x x).1 refl;
  symm = λ x y. same_from_decides (E x y) (E y x) (decides x y) (Decides-like (E y x) sym sym (decides y x));
  congr = λ x y z same. ap (λ x. E x z) ((decides x y).0 same);
}

pub source_eq_equiv : IsEquivalence source_eq
source_eq_equiv = by_decides source_eq sources_decide

pub change_eq_equiv : IsEquivalence change_eq
change_eq_equiv = by_decides change_eq changes_decide

pub edit_eq_equiv : IsEquivalence edit_eq
edit_eq_equiv = by_decides edit_eq edits_decide

pub changeset_eq_equiv : IsEquivalence changeset_eq
changeset_eq_equiv = by_decides changeset_eq changeset_eq-Decides
