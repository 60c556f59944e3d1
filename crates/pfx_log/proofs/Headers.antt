-- The header that bytes begin with.
use Rattle.std.proofs.Common.{◌≡◌, ℕ, ◌+◌, ◌<◌, List, [], ◌∷◌, ◌++◌, length, get_or, take, drop, sym, ◌∙◌, ap, arith, append_assoc, append-nil, length-append, length-take, length-drop}
use Rattle.std.proofs.lemmas.List.{take-append-drop, take_all, drop-drop, drop_more}
use Rattle.std.proofs.lemmas.List.Elements.{All-drop}
use Rattle.byteorder.specs.Endian.{little_bytes, little_number}
use Rattle.byteorder.specs.Numbers.{length-bytes_low_first}
use Rattle.pfx_disk.specs.declared.gates.TheConstants.{GATE_OPEN}
use Rattle.pfx_log.specs.Holding.{Begins}
use Rattle.pfx_log.specs.Logs.{AreBytes, Log, first_head, log_bytes, mark, new_log}
use Rattle.pfx_log.specs.Reading.{IsHeaderFront}
use Rattle.pfx_log.specs.declared.place.LogPlace.{LogPlace}
use Rattle.pfx_log.proofs.Chains.{log_split}
use Rattle.pfx_log.proofs.Spelled.{again}
use Rattle.pfx_log.proofs.Strings.{header_split}

-- the 15 bytes of a front
pub front_is : (f : List ℕ) (n : ℕ) → length f ≡ 15 → take 9 f ≡ mark → get_or f 9 0 ≡ 1 → AreBytes f → n ≡ little_number 4 (drop 11 f) → f ≡ (mark ++ (1 ∷ get_or f 10 0 ∷ [])) ++ little_bytes 4 n
front_is f n long letters version small n_is =
    let behind : length (drop 11 f) ≡ 4 = length-drop 11 f ∙ omega (arith, long) in
    let four : drop 11 f ≡ little_bytes 4 n = sym (take_all 4 (drop 11 f) (omega (arith, behind))) ∙ sym (again 4 (drop 11 f) (omega (arith, behind)) (All-drop (λ b. b < 256) 11 f small)) ∙ ap (little_bytes 4) (sym n_is) in
    sym (take-append-drop 9 f) ∙ ap (λ t. t ++ drop 9 f) letters
    ∙ ap (λ t. mark ++ t) (drop_more f 9 0 (omega (arith, long)) ∙ ap (λ b. b ∷ drop 10 f) version ∙ ap (λ t. 1 ∷ t) (drop_more f 10 0 (omega (arith, long)) ∙ ap (λ t. get_or f 10 0 ∷ t) four))

module _ (bytes : List ℕ) (version n : ℕ) (front : IsHeaderFront version n bytes) (state before : List ℕ) (is_state : state ≡ take n (drop 15 bytes)) (is_before : before ≡ take 32 (drop (15 + n) bytes)) where
  long_state : length state ≡ n
  long_state = ap length is_state ∙ length-take n (drop 15 bytes) ∙ (let f = front.fits in let d = length-drop 15 bytes in omega (arith, d, f))

  long_before : length before ≡ 32
  long_before = ap length is_before ∙ length-take 32 (drop (15 + n) bytes) ∙ (let f = front.fits in let d = length-drop (15 + n) bytes in omega (arith, d, f))

  l : Log
  l = new_log version state before

  whole : bytes ≡ log_bytes (new_log version state before) ++ drop (47 + n) bytes
  whole =
      sym (take-append-drop 15 bytes) ∙ ap (λ t. t ++ drop 15 bytes) front.front
      ∙ ap (λ (k : ℕ). ((mark ++ (1 ∷ version ∷ [])) ++ little_bytes 4 k) ++ drop 15 bytes) (sym long_state)
      ∙ ap (λ t. ((mark ++ (1 ∷ version ∷ [])) ++ little_bytes 4 (length state)) ++ t)
      (sym (take-append-drop n (drop 15 bytes)) ∙ ap (λ t. t ++ drop n (drop 15 bytes)) (sym is_state)
      ∙ ap (λ t. state ++ t) (drop-drop n 15 bytes ∙ sym (take-append-drop 32 (drop (15 + n) bytes)) ∙ ap (λ t. t ++ drop 32 (drop (15 + n) bytes)) (sym is_before)
      ∙ ap (λ t. before ++ t) (drop-drop 32 (15 + n) bytes ∙ ap (λ (k : ℕ). drop k bytes) (omega arith))))
      ∙ append_assoc (mark ++ (1 ∷ version ∷ [])) (little_bytes 4 (length state)) (state ++ (before ++ drop (47 + n) bytes))
      ∙ ap (λ t. GATE_OPEN ∷ t) (sym (header_split (new_log version state before) (drop (47 + n) bytes)))
      ∙ sym (log_split (new_log version state before) (drop (47 + n) bytes))

  pub begins : version < 256 → AreBytes state → AreBytes before → (place : LogPlace) → place.at ≡ 47 + n → place.last ≡ little_number 8 state → place.head ≡ first_head (new_log version state before)
      → Begins (new_log version state before) place bytes
  begins small bytes_state bytes_before place at last head = record {
    is_log = record {
      header = record { version = small; some = (let s = front.some in omega (arith, s, long_state)); most = (let m = front.most in omega (arith, m, long_state)); long = long_before; state = bytes_state; before = bytes_before };
      blocks = tt;
    };
    end = record { at = at ∙ sym long_all; last = last; head = head };
    whole = whole ∙ ap (λ (k : ℕ). log_bytes (new_log version state before) ++ drop k bytes) (sym at);
  }
    where
      long_all : length (log_bytes (new_log version state before)) ≡ 47 + n
      long_all =
          ap length (sym (append-nil (log_bytes (new_log version state before))) ∙ log_split (new_log version state before) [] ∙ ap (λ t. GATE_OPEN ∷ t) (header_split (new_log version state before) []))
          ∙ (let a = length-append (0x50 ∷ 0x46 ∷ 0x58 ∷ 0x41 ∷ 0x55 ∷ 0x44 ∷ 0x49 ∷ 0x54 ∷ 1 ∷ version ∷ []) (little_bytes 4 (length state) ++ (state ++ (before ++ []))) in
          let b = length-append (little_bytes 4 (length state)) (state ++ (before ++ [])) in
          let c = length-append state (before ++ []) in
          let d = length-append before [] in
          let e = length-bytes_low_first 0 4 (length state) in
          omega (arith, a, b, c, d, e, long_state, long_before))
