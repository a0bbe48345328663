-- The field that a plan becomes on the wire: its data with zeros up to the length that it states is its message, and zeros up to
-- its wire length are its padding.
use Rattle.std.specs.Prelude.{List, [], ◌++◌, map, ℕ, ◌+◌, ◌-◌, length, replicate, Result, Err, Ok}
use Rattle.base_big_endian.specs.Meant.{big_endian}
use Rattle.field_kinds.specs.Meant.{reference_id_request, nts_encrypted_field}
use Rattle.write_field.specs.Meant.{data_of}
use Rattle.write_field.specs.declared.Plan.{Plan}
use Rattle.write_field.specs.declared.Plan.TheVariants.{Field as Framed, Request}
use Rattle.write_stage_two.specs.Meant.{padded}
use Rattle.layout.specs.Meant.{Field}
use Rattle.base_answers.specs.declared.Refusal.{Refusal}

abbrev pub zeros : ℕ → List ℕ
zeros n = replicate n 0

-- a field of type `t` that states the length `l` and has the wire length `k`, with this data
abbrev pub wire : ℕ → ℕ → List ℕ → ℕ → Field
wire t l body k = record { type = t; message = body ++ zeros (l - (4 + length body)); padding = zeros (k - l) }

abbrev pub wire_of : List ℕ → Result Plan Refusal → Field
wire_of lent (Ok (Framed t l k from to)) = wire t l (data_of lent from to) k
wire_of lent (Ok (Request l k offset)) = wire reference_id_request l (big_endian 2 offset) k
wire_of lent (Err r) = record { type = 0; message = []; padding = [] }

-- the sealed field around a nonce and a ciphertext
abbrev pub seal_field : List ℕ → List ℕ → Field
seal_field nonce ciphertext = record {
  type = nts_encrypted_field;
  message = big_endian 2 (length nonce) ++ (big_endian 2 (length ciphertext) ++ (padded nonce ++ padded ciphertext));
  padding = [];
}

-- the fields that planned ones become
abbrev pub wires : List ℕ → List (Result Plan Refusal) → List Field
wires lent plans = map (λ (p : Result Plan Refusal). wire_of lent p) plans
