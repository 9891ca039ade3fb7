use Rattle.std.proofs.Common.{get_or, refl, ap, ◌∙◌, arith, eq-eqb}
use Rattle.changeset_model.specs.Path.{elements}
use Rattle.touch_index.proofs.PathKeys.{first_read, all_read}
use Rattle.touch_index.proofs.keys.keys_of.Goals as goal

pub returns-clause-keys : goal.returns-clause-keys
returns-clause-keys c =
    all_read c.loop-byte.found.items c.loop-byte.key c.as_bytes-byte-items.result.now c.loop-byte.byte-index c.loop-byte.invariant c.push-2.new.self.items c.args.path.now
    (omega arith) c.in_ok-push-2.ensures.items (ap elements c.as_bytes-byte-items.ensures.value ∙ c.as_str.ensures.elements)

pub returns-then-len-eq-MOST_KEYS-clause-keys : goal.returns-then-len-eq-MOST_KEYS-clause-keys
returns-then-len-eq-MOST_KEYS-clause-keys c =
    let text = c.as_bytes-byte-items.result.now in
    first_read c.loop-byte.found.items c.loop-byte.key text c.loop-byte.byte-index c.loop-byte.invariant (get_or text c.loop-byte.byte-index 0) c.push.new.self.items c.args.path.now
    c.loop-byte-test.true refl (eq-eqb (get_or text c.loop-byte.byte-index 0) 0x2F c.if-byte-eq47.true) c.in_ok-push.ensures.items (let is = c.len.ensures in let many = c.if-len-eq-MOST_KEYS.true in let long = c.push.new.self.ok in omega arith)
    (ap elements c.as_bytes-byte-items.ensures.value ∙ c.as_str.ensures.elements)
