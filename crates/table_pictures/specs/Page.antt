-- The page for the JSON text of tables.
use Rattle.std.specs.Prelude.{ℕ, List, ◌++◌, codes}
use Rattle.table_pictures.specs.Escape.{inert}
use Rattle.table_pictures.specs.declared.page.TheConstants.{BODY}
use Rattle.table_pictures.specs.declared.finding.TheConstants.{FINDING}
use Rattle.table_pictures.specs.declared.script.TheConstants.{TREES, DRAWING}
use Rattle.table_pictures.specs.declared.style.TheConstants.{STYLE}

-- the content security policy of a page: a browser loads nothing from outside, and takes styles and
-- scripts from the page alone
abbrev pub policy : List ℕ
policy = codes "default-src 'none'; style-src 'unsafe-inline'; script-src 'unsafe-inline'"

-- the beginning of a page, with its policy before each style and each script
abbrev pub page_start : List ℕ
page_start =
    codes "<!DOCTYPE html>\n<html lang=\"en\">\n<head>\n<meta charset=\"utf-8\">\n<meta name=\"viewport\" content=\"width=device-width, initial-scale=1\">\n"
    ++ (codes "<meta http-equiv=\"Content-Security-Policy\"\n  content=\"" ++ (policy ++ codes "\">\n<title>States</title>\n<style>\n"))

-- the part of a page before the data
abbrev pub page_head : List ℕ
page_head = page_start ++ (STYLE.now ++ BODY.now)

-- the end of the element of the data, and the beginning of the element of the script
abbrev pub script_start : List ℕ
script_start = codes "</script>\n<script>\n\"use strict\";\n"

-- the end of a page, after its script
abbrev pub script_end : List ℕ
script_end = codes "</script>\n</body>\n</html>\n"

-- the part of a page after the data
abbrev pub page_end : List ℕ
page_end = script_start ++ (TREES.now ++ (DRAWING.now ++ (FINDING.now ++ script_end)))

-- a page: fixed texts around the data, which contain no `<`
abbrev pub page : List ℕ → List ℕ
page json = page_head ++ (inert json ++ page_end)
