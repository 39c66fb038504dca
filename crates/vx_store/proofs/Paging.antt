-- Marks of components and devices in pages, kind by kind.
use Rattle.std.proofs.Common.{◌≡◌, ℕ, ◌+◌, ◌*◌, ◌/◌, ◌%◌, ◌^◌, ◌<◌, ◌≤◌, false, List, length, get_or, set, replicate, Bor, Option, Some, None, IfSome, refl, ap, ◌∙◌, subst, sym, arith}
use Rattle.std.specs.Option.{option_copied}
use Rattle.std.proofs.lemmas.List.{length-replicate}
use Rattle.vx_marks.specs.Marks.{is_marked, IsFirstMarked, AreUnmarked}
use Rattle.vx_marks.specs.Pages as pages
use Rattle.vx_marks.specs.declared.page.Page.{Page}
use Rattle.vx_marks.specs.declared.page.TheConstants.{PAGE}
use Rattle.vx_marks.proofs.Marking.{none_marked}
use Rattle.vx_marks.proofs.Paging as paging
use Rattle.vx_store.specs.MachineMarks.{MarkWords, words_of, blank_page, joined, ArePages, AreMarksSet}
use Rattle.vx_store.specs.declared.mark_kind.MarkKind.{MarkKind}
use Rattle.vx_store.specs.declared.mark_kind.MarkKind.TheVariants.{Component, Device}

-- the words of a kind
pub kind_blank : (kind : MarkKind) → words_of kind blank_page ≡ replicate 64 0
unfolding blank_page
kind_blank Component = refl
kind_blank Device = refl

kind_joined : (kind : MarkKind) (ps : List MarkWords) → words_of kind (joined ps) ≡ pages.joined (words_of kind) ps
kind_joined Component ps = refl
kind_joined Device ps = refl

kind_are : (kind : MarkKind) (ps : List MarkWords) → ArePages ps → pages.ArePages (words_of kind) ps
kind_are Component ps are = are.components
kind_are Device ps are = are.devices

pub pages_length : (kind : MarkKind) (ps : List MarkWords) → ArePages ps
    → 64 * length (words_of kind (joined ps)) ≡ PAGE * length ps
pages_length kind ps are =
    let all = ap length (kind_joined kind ps) in
    omega (arith, all, paging.pages_length (words_of kind) ps (kind_are kind ps are))

-- none of so many indices is marked
pub blank_words : (kind : MarkKind) (n : ℕ)
    → words_of kind (joined (replicate n blank_page)) ≡ replicate (64 * n) 0
blank_words kind n =
    kind_joined kind (replicate n blank_page) ∙ paging.blank_joined (words_of kind) blank_page n (kind_blank kind)

pub blank_pages : (kind : MarkKind) (n count : ℕ) → n ≡ count / PAGE → count % PAGE ≡ 0
    → words_of kind (joined (replicate n blank_page)) ≡ replicate (count / 64) 0
blank_pages kind n count is all =
    let words : 64 * n ≡ count / 64 = omega arith in
    blank_words kind n ∙ ap (λ k. replicate k 0) words

blank_long : (kind : MarkKind) → length (words_of kind blank_page) ≡ 64
blank_long kind = ap length (kind_blank kind) ∙ length-replicate {A = ℕ} 64 0

pub are_blank : (n count : ℕ) → n ≡ count / PAGE → count < 2 ^ 32 → ArePages (replicate n blank_page)
are_blank n count is fits = record {
  components = paging.same_pages (words_of Component) blank_page n (blank_long Component) (omega arith);
  devices = paging.same_pages (words_of Device) blank_page n (blank_long Device) (omega arith);
}

pub kind_unmarked : (kind : MarkKind) (i : ℕ) → is_marked (words_of kind blank_page) i ≡ false
kind_unmarked kind i = ap (λ words. is_marked words i) (kind_blank kind) ∙ none_marked 64 i

-- past the last page there is none
pub past_all : (kind : MarkKind) (ps : List MarkWords) (n : ℕ) → ArePages ps → length ps ≤ n
    → pages.IsPage (words_of kind (joined ps)) n None
past_all kind ps n are past i is =
    ap (λ words. is_marked words i) (kind_joined kind ps)
    ∙ paging.none_past (words_of kind) ps (kind_are kind ps are) i (omega (arith, is, past))

-- what is found in a page that was read
module _ (kind : MarkKind) (ps : List MarkWords) (n : ℕ) (page : MarkWords) (are : ArePages ps)
    (near : n < length ps) (read : page ≡ get_or ps n page) where
  mark_is : (i : ℕ) → n ≡ i / PAGE → is_marked (words_of kind (joined ps)) i ≡ is_marked (words_of kind page) (i % PAGE)
  mark_is i is =
      ap (λ words. is_marked words i) (kind_joined kind ps)
      ∙ paging.mark_of_page (words_of kind) ps (kind_are kind ps are) n page near read i is

  -- its marks of a kind are lent, and need not be where there are none
  pub page_is : (lent : Option (Bor Page)) → IfSome lent (λ marks. marks.now ≡ words_of kind page)
      → (lent ≡ None → words_of kind page ≡ replicate 64 0)
      → pages.IsPage (words_of kind (joined ps)) n (option_copied lent)
  page_is None some none =
      λ i is. mark_is i (sym is) ∙ ap (λ words. is_marked words (i % PAGE)) (none refl) ∙ none_marked 64 (i % PAGE)
  page_is (Some marks) some none =
      λ i is. mark_is i (sym is) ∙ ap (λ words. is_marked words (i % PAGE)) (sym some)

  -- where nothing was marked before it, and nothing is in the page, nothing is before the next page
  pub none_to_next : (from next : ℕ) → n ≡ next / PAGE → AreUnmarked (words_of kind (joined ps)) from next
      → IsFirstMarked (words_of kind page) (next % PAGE) None
      → AreUnmarked (words_of kind (joined ps)) from (PAGE * (n + 1))
  none_to_next from next is so_far none =
      subst (λ words. AreUnmarked words from (PAGE * (n + 1))) (sym (kind_joined kind ps))
      (paging.none_to_next (words_of kind) ps (kind_are kind ps are) n page near read from next is
      (subst (λ words. AreUnmarked words from next) (kind_joined kind ps) so_far) none)

  -- else what is first in the page is first of all
  pub first_of_all : (from next k : ℕ) → n ≡ next / PAGE → from ≤ next → AreUnmarked (words_of kind (joined ps)) from next
      → IsFirstMarked (words_of kind page) (next % PAGE) (Some k)
      → IsFirstMarked (words_of kind (joined ps)) from (Some (PAGE * n + k))
  first_of_all from next k is start so_far found =
      subst (λ words. IsFirstMarked words from (Some (PAGE * n + k))) (sym (kind_joined kind ps))
      (paging.first_of_all (words_of kind) ps (kind_are kind ps are) n page near read from next k is start
      (subst (λ words. AreUnmarked words from next) (kind_joined kind ps) so_far) found)

-- the marks of one index change in a page, and so do those of that index among all
module _ (ps : List MarkWords) (n : ℕ) (page new : MarkWords) (index code : ℕ) (are : ArePages ps)
    (near : n < length ps) (read : page ≡ get_or ps n page) (is : n ≡ index / PAGE)
    (changed : AreMarksSet page new (index % PAGE) code) where
  pub pages_set : ArePages (set ps n new)
  pages_set = record {
    components = paging.still_pages (λ p. p.components) ps are.components n page near read new index _ is changed.components;
    devices = paging.still_pages (λ p. p.devices) ps are.devices n page near read new index _ is changed.devices;
  }

  pub marks_changed : AreMarksSet (joined ps) (joined (set ps n new)) index code
  marks_changed = record {
    components = paging.mark_set (λ p. p.components) ps are.components n page near read new index _ is changed.components;
    devices = paging.mark_set (λ p. p.devices) ps are.devices n page near read new index _ is changed.devices;
  }
