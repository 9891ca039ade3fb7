use Rattle.std.proofs.Common.{◌||◌, sym, ap, ◌∙◌}
use Rattle.changeset_model.specs.Path.{elements, is_strict_prefix}
use Rattle.repo_path.proofs.Under.{comparable-parts}
use Rattle.repo_path.proofs.path_text.comparable.Goals as goal

pub returns-then-eq : goal.returns-then-eq
returns-then-eq c =
    let left = c.args.left.now in
    let right = c.args.right.now in
    sym (comparable-parts left right ∙ ap (λ b. b || is_strict_prefix (elements left) (elements right) || is_strict_prefix (elements right) (elements left)) (sym c.eq.ensures ∙ c.if-eq.true))

pub returns-else-lies_under : goal.returns-else-lies_under
returns-else-lies_under c =
    let left = c.args.left.now in
    let right = c.args.right.now in
    c.lies_under-else-lies_under.ensures
    ∙ ap (λ b. b || is_strict_prefix (elements right) (elements left)) (sym c.if-lies_under.false ∙ c.lies_under.ensures)
    ∙ ap (λ b. b || is_strict_prefix (elements left) (elements right) || is_strict_prefix (elements right) (elements left)) (sym c.if-eq.false ∙ c.eq.ensures)
    ∙ sym (comparable-parts left right)
