-- Each return is a case of `body_write`.
use Rattle.std.proofs.Common.{rules, ◌≡◌, Err, refl, sym, ◌∙◌, arith}
use Rattle.base_store.specs.Laws.{written}
use Rattle.journal_body.specs.Meant.{counts_body}
use Rattle.journal_body.specs.LawsCases.{is_byte, no_byte, are_bytes_law, not_bytes, no_room, all_written}
use Rattle.journal_body.proofs.write_counts.Goals as goal

pub returns-in_err-byte : goal.returns-in_err-byte
returns-in_err-byte c =
    let x = no_byte c.args.number c.in_err-byte.ensures in
    let e : c.from_residual.result ≡ Err c.in_err-byte.field-0.0 = search rules in
    rw (e, x.why)
    (sym (not_bytes (counts_body c.args.number c.args.authenticated_count c.args.untrusted_count c.args.encrypted_count) c.args.out.now c.args.at (rw x.large)))

pub returns-in_err-byte-2 : goal.returns-in_err-byte-2
returns-in_err-byte-2 c =
    let n = is_byte c.args.number c.in_ok-byte.ensures in
    let x = no_byte c.args.authenticated_count c.in_err-byte-2.ensures in
    let e : c.from_residual-in_err-byte-2.result ≡ Err c.in_err-byte-2.field-0.0 = search rules in
    rw (e, x.why)
    (sym (not_bytes (counts_body c.args.number c.args.authenticated_count c.args.untrusted_count c.args.encrypted_count) c.args.out.now c.args.at (rw (n.small, x.large))))

pub returns-in_err-byte-3 : goal.returns-in_err-byte-3
returns-in_err-byte-3 c =
    let n = is_byte c.args.number c.in_ok-byte.ensures in
    let a = is_byte c.args.authenticated_count c.in_ok-byte-2.ensures in
    let x = no_byte c.args.untrusted_count c.in_err-byte-3.ensures in
    let e : c.from_residual-in_err-byte-3.result ≡ Err c.in_err-byte-3.field-0.0 = search rules in
    rw (e, x.why)
    (sym (not_bytes (counts_body c.args.number c.args.authenticated_count c.args.untrusted_count c.args.encrypted_count) c.args.out.now c.args.at (rw (n.small, a.small, x.large))))

pub returns-in_err-byte-4 : goal.returns-in_err-byte-4
returns-in_err-byte-4 c =
    let n = is_byte c.args.number c.in_ok-byte.ensures in
    let a = is_byte c.args.authenticated_count c.in_ok-byte-2.ensures in
    let u = is_byte c.args.untrusted_count c.in_ok-byte-3.ensures in
    let x = no_byte c.args.encrypted_count c.in_err-byte-4.ensures in
    let e : c.from_residual-in_err-byte-4.result ≡ Err c.in_err-byte-4.field-0.0 = search rules in
    rw (e, x.why)
    (sym (not_bytes (counts_body c.args.number c.args.authenticated_count c.args.untrusted_count c.args.encrypted_count) c.args.out.now c.args.at (rw (n.small, a.small, u.small, x.large))))

pub returns-then-room-lt4 : goal.returns-then-room-lt4
returns-then-room-lt4 c =
    let n = is_byte c.args.number c.in_ok-byte.ensures in
    let a = is_byte c.args.authenticated_count c.in_ok-byte-2.ensures in
    let u = is_byte c.args.untrusted_count c.in_ok-byte-3.ensures in
    let e = is_byte c.args.encrypted_count c.in_ok-byte-4.ensures in
    let bytes = are_bytes_law c.args.number c.args.authenticated_count c.args.untrusted_count c.args.encrypted_count (record { number = n.fits; authenticated = a.fits; untrusted = u.fits; encrypted = e.fits }) in
    sym (no_room _ c.args.out.now c.args.at bytes (omega arith))

pub returns : goal.returns
returns c =
    let n = is_byte c.args.number c.in_ok-byte.ensures in
    let a = is_byte c.args.authenticated_count c.in_ok-byte-2.ensures in
    let u = is_byte c.args.untrusted_count c.in_ok-byte-3.ensures in
    let e = is_byte c.args.encrypted_count c.in_ok-byte-4.ensures in
    let bytes = are_bytes_law c.args.number c.args.authenticated_count c.args.untrusted_count c.args.encrypted_count (record { number = n.fits; authenticated = a.fits; untrusted = u.fits; encrypted = e.fits }) in
    written c.args.out.now c.args.at _ refl (omega arith) c.copy.ensures
    ∙ rw (n.same, a.same, u.same, e.same) (sym (all_written _ c.args.out.now c.args.at bytes (omega arith)))
